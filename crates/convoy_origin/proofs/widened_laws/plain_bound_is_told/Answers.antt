use Rattle.convoy_origin.proofs.ToldBound.{plain_told}
use Rattle.convoy_origin.proofs.widened_laws.plain_bound_is_told.Goals as goal

pub returns : goal.returns
returns c = plain_told
