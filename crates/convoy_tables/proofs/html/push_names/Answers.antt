use Rattle.std.proofs.Common.{[], arith}
use Rattle.convoy_tables.specs.Formats.{html_name}
use Rattle.convoy_tables.proofs.Pieces.{none_left}
use Rattle.convoy_tables.proofs.html.push_names.Goals as goal

pub returns : goal.returns
returns c =
    none_left [] (html_name c.args.rows.now) c.loop-column.out.items _ c.args.names.now c.loop-column.column (omega arith) c.loop-column.invariant
