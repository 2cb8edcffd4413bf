use Rattle.std.proofs.Common.{◌≡◌, take}
use Rattle.convoy_survey.specs.CeilingTables.{greatest_attained}
use Rattle.convoy_survey.proofs.ceiling_table.greatest_attained.Given as goal

-- the greatest of the rows so far
abbrev pub invariant-loop-row : goal.invariant-loop-row
invariant-loop-row l = l.greatest ≡ greatest_attained (take l.row-index l.rows)
