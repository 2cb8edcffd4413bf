use Rattle.std.proofs.Common.{◌≡◌, take}
use Rattle.convoy_outage_answers.specs.TablesThrough.{through_at_all}
use Rattle.convoy_outage_answers.proofs.cells.through_at_all.Given as goal

-- the greatest of the rows so far
abbrev pub invariant-loop-row : goal.invariant-loop-row
invariant-loop-row l = l.through ≡ through_at_all (take l.row-index l.rows)
