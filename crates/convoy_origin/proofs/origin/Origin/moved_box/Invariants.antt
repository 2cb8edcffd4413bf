use Rattle.convoy_origin.proofs.MovedRanges.{IsMovedTo}
use Rattle.convoy_origin.proofs.origin.Origin.moved_box.Given as goal

abbrev pub invariant-loop-place : goal.invariant-loop-place
invariant-loop-place l = IsMovedTo l.place l.fn.self l.fn.delay_box l.wide
