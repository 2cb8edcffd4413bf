use Rattle.std.proofs.Common.{◌≡◌, ◌+◌, drop}
use Rattle.csv.specs.Records.{fields_of}
use Rattle.convoy_ranges.specs.Tables.{all_seen, with_front}
use Rattle.convoy_ranges.proofs.rows.push_all_seen.Given as goal

-- what is told so far, and by the columns that are left
abbrev pub invariant-loop-i : goal.invariant-loop-i
invariant-loop-i l =
    with_front l.seen.items (all_seen l.line l.from (fields_of l.cells) (l.i + 1) (drop l.i l.columns))
    ≡ with_front l.fn.seen.items (all_seen l.line l.from (fields_of l.cells) 1 l.columns)
