use Rattle.convoy_scenario.proofs.WidenedLemmas.{widened_formed}
use Rattle.convoy_scenario.proofs.widened_laws.widened_is_scenario.Goals as goal

pub returns : goal.returns
returns c = widened_formed
