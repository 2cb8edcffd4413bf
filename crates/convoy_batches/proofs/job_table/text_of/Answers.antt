use Rattle.std.proofs.Common.{◌≡◌, IfOk, subst}
use Rattle.convoy_tables.specs.Formats.{table_text}
use Rattle.convoy_tables.specs.Tables.{Table}
use Rattle.convoy_batches.proofs.job_table.text_of.Goals as goal

pub returns : goal.returns
returns c =
    let P : Table → Type 0 = λ table. IfOk c.table_text.result (λ text. text.items ≡ table_text c.args.format table) in
    subst P c.in_ok-table.ensures c.table_text.ensures
