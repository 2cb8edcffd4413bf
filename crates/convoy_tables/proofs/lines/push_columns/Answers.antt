use Rattle.std.proofs.Common.{length, codes, arith}
use Rattle.convoy_tables.specs.Formats.{column_text}
use Rattle.convoy_tables.proofs.Pieces.{none_left}
use Rattle.convoy_tables.proofs.lines.push_columns.Goals as goal

pub returns : goal.returns
returns c =
    none_left (codes "  ") (column_text c.args.widths.now (length c.args.cells.now))
    c.loop-column.out.items _ c.args.cells.now c.loop-column.column (omega arith) c.loop-column.invariant
