use Rattle.std.proofs.Common.{◌≡◌, map}
use Rattle.std.specs.List.{range_with_len}
use Rattle.convoy_tables.specs.Formats.{width_at}
use Rattle.convoy_tables.proofs.aligning.widths_of.Given as goal

abbrev pub invariant-loop-column : goal.invariant-loop-column
invariant-loop-column l = l.widths.items ≡ map (width_at l.table.columns l.table.rows) (range_with_len 0 l.column)
