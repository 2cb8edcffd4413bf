use Rattle.convoy_ceiling.proofs.Bound.{is_upper}
use Rattle.convoy_ceiling.proofs.ceiling_laws.ceiling_is_upper.Goals as goal

pub returns : goal.returns
returns c = is_upper c.ceiling_holds.ensures
