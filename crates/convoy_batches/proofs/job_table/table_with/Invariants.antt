-- The table of the rows so far.
use Rattle.std.proofs.Common.{◌≡◌, take}
use Rattle.convoy_batches.specs.JobTables.{table_with}
use Rattle.convoy_batches.proofs.job_table.table_with.Given as goal

abbrev pub invariant-loop-i : goal.invariant-loop-i
invariant-loop-i l = l.table ≡ table_with l.judged l.sure (take l.i l.rows)
