use Rattle.convoy_around.proofs.AroundLemmas.{formed}
use Rattle.convoy_around.proofs.around_laws.around_is_scenario.Goals as goal

pub returns : goal.returns
returns c = formed
