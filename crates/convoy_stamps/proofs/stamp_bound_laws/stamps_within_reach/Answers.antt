use Rattle.convoy_stamps.proofs.StampReach.{within_reach}
use Rattle.convoy_stamps.proofs.stamp_bound_laws.stamps_within_reach.Goals as goal

pub returns : goal.returns
returns c scenario schedule tables well enclosed m g goes =
    within_reach c.last_raise.ensures scenario schedule tables well enclosed m g goes
