use Rattle.std.proofs.Common.{◌≢◌}
use Rattle.csv.specs.Writing.{writer_setup}
use Rattle.csv.specs.declared.writer.QuoteStyle.TheVariants as style
use Rattle.convoy_tables.proofs.Flexible.{row_same}
use Rattle.convoy_tables.proofs.records.write_cells.Goals as goal

pub returns-in-Ok-clause-written : goal.returns-in-Ok-clause-written
returns-in-Ok-clause-written c =
    let plain : (writer_setup c.args.writer.now).style ≢ style.NonNumeric = rw c.requires.setup (λ e. cc e) in
    let bytes = c.in-Ok.ensures.bytes c.requires.fields c.requires.none plain in
    rw (c.requires.setup, row_same, c.in_ok-record_of.ensures) at bytes
