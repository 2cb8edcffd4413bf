use Rattle.std.proofs.Common.{◌≡◌, ◌++◌, codes, drop, length}
use Rattle.convoy_tables.specs.Formats.{column_text, columns_text}
use Rattle.convoy_tables.proofs.Pieces.{joined_from}
use Rattle.convoy_tables.proofs.lines.push_columns.Given as goal

-- the cells so far and those that are left are all of them
abbrev pub invariant-loop-column : goal.invariant-loop-column
invariant-loop-column l =
    l.out.items ++ joined_from (codes "  ") (column_text l.widths (length l.cells)) l.column (drop l.column l.cells)
    ≡ l.initial.out.items ++ columns_text l.widths l.cells
