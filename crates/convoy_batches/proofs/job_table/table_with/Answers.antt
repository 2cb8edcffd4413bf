use Rattle.std.proofs.Common.{sym, ◌∙◌, subst}
use Rattle.std.specs.Str.{IsUtf8}
use Rattle.convoy_batches.specs.declared.job_row.JobRow.{JobRow}
use Rattle.convoy_batches.proofs.JobCells.{one_more_row}
use Rattle.convoy_batches.proofs.job_table.table_with.Goals as goal

pub cells_of-requires : goal.cells_of-requires
cells_of-requires c =
    let P : JobRow → Type 0 = λ row. IsUtf8 row.label.items in
    subst P (sym c.index-rows-i.is) (c.requires.labels c.loop-i.i c.index-rows-i.result c.loop-i-test.true)

pub loop-i-preserved : goal.loop-i-preserved
loop-i-preserved c =
    c.in_ok-push.ensures
    ∙ one_more_row c.args.judged c.args.sure c.args.rows.now c.loop-i.i c.index-rows-i.result _ _ c.loop-i-test.true c.index-rows-i.is c.loop-i.invariant c.in_ok-cells_of.ensures
