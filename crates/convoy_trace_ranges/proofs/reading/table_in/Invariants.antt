use Rattle.std.proofs.Common.{◌≡◌, length}
use Rattle.convoy_trace_ranges.specs.Reading.{table_in}
use Rattle.convoy_trace_ranges.proofs.reading.table_in.Given as goal

-- what is told by the lines that are left is all
abbrev pub invariant-lines : goal.invariant-lines
invariant-lines l = table_in l.unit l.reader.number l.reader.ended ≡ table_in l.unit l.fn.reader.number l.fn.reader.ended

abbrev pub decreases-lines : goal.decreases-lines
decreases-lines l = length l.reader.ended
