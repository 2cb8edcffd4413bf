use Rattle.std.proofs.Common.{◌≡◌, take}
use Rattle.convoy_kinds_told.specs.Worst.{greatest_ceiling}
use Rattle.convoy_kinds_told.proofs.worst.greatest_ceiling.Given as goal

-- the greatest of the rows so far
abbrev pub invariant-loop-row : goal.invariant-loop-row
invariant-loop-row l = l.greatest ≡ greatest_ceiling (take l.row-index l.rows)
