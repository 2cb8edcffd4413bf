use Rattle.std.proofs.Common.{◌≡◌, take}
use Rattle.convoy_outage_answers.specs.TablesThrough.{rows_through_of}
use Rattle.convoy_outage_answers.proofs.table.rows_through_of.Given as goal

-- of the rows so far those of the message are kept
abbrev pub invariant-loop-row : goal.invariant-loop-row
invariant-loop-row l = l.kept.items ≡ rows_through_of l.message (take l.row-index l.rows)
