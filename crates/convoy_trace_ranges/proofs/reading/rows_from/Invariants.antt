use Rattle.std.proofs.Common.{◌≡◌, length}
use Rattle.convoy_trace_ranges.specs.Reading.{rows_from}
use Rattle.convoy_trace_ranges.proofs.reading.rows_from.Given as goal

-- what is told so far, and by the lines that are left
abbrev pub invariant-lines : goal.invariant-lines
invariant-lines l =
    rows_from l.unit l.head l.reader.number l.told l.reader.ended
    ≡ rows_from l.unit l.head l.fn.reader.number l.fn.before l.fn.reader.ended

abbrev pub decreases-lines : goal.decreases-lines
decreases-lines l = length l.reader.ended
