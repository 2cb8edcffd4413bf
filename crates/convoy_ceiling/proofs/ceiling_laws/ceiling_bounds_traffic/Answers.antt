use Rattle.convoy_ceiling.proofs.Asked.{bounded}
use Rattle.convoy_ceiling.proofs.ceiling_laws.ceiling_bounds_traffic.Goals as goal

pub returns : goal.returns
returns c = bounded c.ceiling_holds.ensures
