use Rattle.std.proofs.Common.{◌≡◌, take, map}
use Rattle.convoy_sweep.specs.Points.{single}
use Rattle.convoy_sweep.proofs.points.singles_of.Given as goal

abbrev pub invariant-loop-given : goal.invariant-loop-given
invariant-loop-given l = l.points.items ≡ map single (take l.given-index l.outer)
