use Rattle.std.proofs.Common.{◌≡◌, ◌++◌, take}
use Rattle.convoy_sweep.specs.Points.{points_at}
use Rattle.convoy_sweep.proofs.points.push_pairs.Given as goal

abbrev pub invariant-loop-other : goal.invariant-loop-other
invariant-loop-other l = l.points.items ≡ l.initial.points.items ++ points_at (take l.other-index l.inner) l.given
