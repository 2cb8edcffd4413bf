use Rattle.std.proofs.Common.{◌≡◌, length}
use Rattle.convoy_traces.specs.Traces.{table_in}
use Rattle.convoy_traces.proofs.reading.table_in.Given as goal

-- what is told by the lines that are left is all
abbrev pub invariant-lines : goal.invariant-lines
invariant-lines l = table_in l.scenario l.clock l.reader.number l.reader.ended ≡ table_in l.scenario l.clock l.fn.reader.number l.fn.reader.ended

abbrev pub decreases-lines : goal.decreases-lines
decreases-lines l = length l.reader.ended
