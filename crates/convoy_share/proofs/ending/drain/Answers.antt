use Rattle.convoy_share.proofs.Worked.{owner_own}
use Rattle.convoy_share.proofs.ending.drain.Goals as goal

pub drain_once-requires : goal.drain_once-requires
drain_once-requires g c = owner_own _ _ _ _ _ _ _ _ c.loop.invariant
