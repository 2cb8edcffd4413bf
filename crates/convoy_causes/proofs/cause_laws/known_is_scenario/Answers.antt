use Rattle.convoy_causes.proofs.MovedCauses.{known_is_scenario}
use Rattle.convoy_causes.proofs.cause_laws.known_is_scenario.Goals as goal

pub returns : goal.returns
returns c = known_is_scenario c.widened_is_scenario.ensures
