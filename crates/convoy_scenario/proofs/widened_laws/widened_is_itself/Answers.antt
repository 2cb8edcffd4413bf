use Rattle.convoy_scenario.proofs.WidenedLemmas.{widened_itself}
use Rattle.convoy_scenario.proofs.widened_laws.widened_is_itself.Goals as goal

pub returns : goal.returns
returns c = widened_itself
