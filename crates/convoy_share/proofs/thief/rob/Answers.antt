use Rattle.convoy_share.proofs.Worked.{thief_own}
use Rattle.convoy_share.proofs.thief.rob.Goals as goal

pub rob_once-requires : goal.rob_once-requires
rob_once-requires g c = thief_own _ _ _ _ _ c.loop.invariant
