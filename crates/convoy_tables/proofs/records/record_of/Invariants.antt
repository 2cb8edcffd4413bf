use Rattle.std.proofs.Common.{◌≡◌, [], map, take}
use Rattle.csv.specs.Records.{fields_of, partial_of}
use Rattle.convoy_tables.specs.Formats.{csv_field}
use Rattle.convoy_tables.proofs.records.record_of.Given as goal

-- the fields so far
abbrev pub invariant-loop-cell : goal.invariant-loop-cell
invariant-loop-cell l =
    (fields_of l.row ≡ map csv_field (take l.cell-index l.cells)) × (partial_of l.row ≡ [])
