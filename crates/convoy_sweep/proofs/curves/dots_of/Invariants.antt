use Rattle.std.proofs.Common.{◌≡◌, map, take}
use Rattle.convoy_sweep.specs.Curves.{dot_of}
use Rattle.convoy_sweep.proofs.curves.dots_of.Given as goal

abbrev pub invariant-loop-row : goal.invariant-loop-row
invariant-loop-row l = l.dots.items ≡ map dot_of (take l.row-index l.rows)
