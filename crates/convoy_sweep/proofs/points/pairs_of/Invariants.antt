use Rattle.std.proofs.Common.{◌≡◌, take, flat_map}
use Rattle.convoy_sweep.specs.Points.{points_at}
use Rattle.convoy_sweep.proofs.points.pairs_of.Given as goal

abbrev pub invariant-loop-given : goal.invariant-loop-given
invariant-loop-given l = l.points.items ≡ flat_map (points_at l.inner) (take l.given-index l.outer)
