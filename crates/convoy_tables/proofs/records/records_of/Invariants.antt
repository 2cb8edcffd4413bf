use Rattle.std.proofs.Common.{◌≡◌, ◌++◌, take}
use Rattle.std.specs.List.{flat_map}
use Rattle.convoy_tables.specs.Formats.{record_text}
use Rattle.convoy_tables.specs.Records.{written, IsBetween}
use Rattle.convoy_tables.proofs.records.records_of.Given as goal

-- the record of the names, and those of the rows so far
abbrev pub invariant-loop-row : goal.invariant-loop-row
invariant-loop-row l =
    (written l.writer ≡ record_text l.table.columns ++ flat_map record_text (take l.row-index l.row-items)) × IsBetween l.writer
