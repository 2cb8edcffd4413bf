use Rattle.convoy_share.proofs.Worked.{owner_own}
use Rattle.convoy_share.proofs.owner.work.Goals as goal

pub work_once-requires : goal.work_once-requires
work_once-requires g c = owner_own _ _ _ _ _ _ _ _ c.loop.invariant
