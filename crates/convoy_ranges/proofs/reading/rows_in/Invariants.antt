use Rattle.std.proofs.Common.{◌≡◌, length}
use Rattle.convoy_ranges.specs.Tables.{rows_in, with_front}
use Rattle.convoy_ranges.proofs.reading.rows_in.Given as goal

-- what is told so far, and by the lines that are left
abbrev pub invariant-lines : goal.invariant-lines
invariant-lines l =
    with_front l.seen.items (rows_in l.head l.reader.number l.reader.ended) ≡ rows_in l.head l.fn.reader.number l.fn.reader.ended

abbrev pub decreases-lines : goal.decreases-lines
decreases-lines l = length l.reader.ended
