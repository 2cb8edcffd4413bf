use Rattle.convoy_causes.proofs.ClosedCauses.{met_greatest}
use Rattle.convoy_causes.proofs.cause_laws.met_upper_is_greatest.Goals as goal

pub returns : goal.returns
returns c = met_greatest
