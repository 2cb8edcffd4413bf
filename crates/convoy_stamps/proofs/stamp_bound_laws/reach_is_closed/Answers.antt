use Rattle.convoy_stamps.proofs.StampReach.{reach_closed}
use Rattle.convoy_stamps.proofs.stamp_bound_laws.reach_is_closed.Goals as goal

pub returns : goal.returns
returns c scenario tables m g goes = reach_closed scenario tables m g goes
