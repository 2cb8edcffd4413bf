use Rattle.std.proofs.Common.{◌≡◌, drop}
use Rattle.csv.specs.Records.{fields_of}
use Rattle.convoy_ranges.specs.Tables.{names_in, with_front}
use Rattle.convoy_ranges.proofs.names.names_in.Given as goal

-- the names so far, and those that are left
abbrev pub invariant-loop-place : goal.invariant-loop-place
invariant-loop-place l =
    with_front l.names.items (names_in l.line (drop l.place (fields_of l.cells))) ≡ names_in l.line (drop 1 (fields_of l.cells))
