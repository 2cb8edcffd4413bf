use Rattle.std.proofs.Common.{◌≡◌, length}
use Rattle.convoy_traces.specs.Traces.{rows_from}
use Rattle.convoy_traces.proofs.reading.rows_from.Given as goal

-- what is told so far, and by the lines that are left
abbrev pub invariant-lines : goal.invariant-lines
invariant-lines l =
    rows_from l.scenario l.clock l.head l.reader.number l.told.items l.reader.ended
    ≡ rows_from l.scenario l.clock l.head l.fn.reader.number l.fn.entries.items l.fn.reader.ended

abbrev pub decreases-lines : goal.decreases-lines
decreases-lines l = length l.reader.ended
