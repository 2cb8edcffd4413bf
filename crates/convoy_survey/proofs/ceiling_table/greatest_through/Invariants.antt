use Rattle.std.proofs.Common.{◌≡◌, take}
use Rattle.convoy_survey.specs.CeilingTables.{greatest_through}
use Rattle.convoy_survey.proofs.ceiling_table.greatest_through.Given as goal

-- the greatest of the rows so far
abbrev pub invariant-loop-row : goal.invariant-loop-row
invariant-loop-row l = l.greatest ≡ greatest_through (take l.row-index l.rows)
