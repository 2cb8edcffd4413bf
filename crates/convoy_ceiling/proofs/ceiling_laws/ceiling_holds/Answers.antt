use Rattle.convoy_ceiling.proofs.Bound.{holds}
use Rattle.convoy_ceiling.proofs.ceiling_laws.ceiling_holds.Goals as goal

pub returns : goal.returns
returns c = holds c.ceiling_holds_in_finer_ticks.ensures
