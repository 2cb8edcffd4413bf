-- So many further cells have nothing.
use Rattle.std.proofs.Common.{◌≡◌, ◌++◌, ◌∷◌, replicate}
use Rattle.convoy_tables.specs.Tables.{nothing, word}
use Rattle.convoy_batches.specs.JobTables.{fault_words}
use Rattle.convoy_batches.proofs.job_table.push_fault.Given as goal

abbrev pub invariant-loop : goal.invariant-loop
invariant-loop l = l.cells ≡ l.fn.cells ++ (word (fault_words l.fault) ∷ replicate l.counter nothing)
