use Rattle.convoy_stamps.proofs.StampReach.{reach_least}
use Rattle.convoy_stamps.proofs.stamp_bound_laws.reach_is_least.Goals as goal

pub returns : goal.returns
returns c scenario tables m g pairs goes start step pair there = reach_least scenario tables m g pairs goes start step pair there
