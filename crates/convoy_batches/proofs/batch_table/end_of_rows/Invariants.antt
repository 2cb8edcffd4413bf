use Rattle.std.proofs.Common.{◌≡◌, take}
use Rattle.convoy_batches.specs.BatchTables.{end_of_rows}
use Rattle.convoy_batches.proofs.batch_table.end_of_rows.Given as goal

-- the end of a batch with the rows so far
abbrev pub invariant-loop-row : goal.invariant-loop-row
invariant-loop-row l = l.end ≡ end_of_rows (take l.row-index l.rows)
