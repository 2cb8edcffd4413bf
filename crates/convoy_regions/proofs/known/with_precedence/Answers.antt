use Rattle.convoy_regions.proofs.Tables.{added}
use Rattle.convoy_regions.proofs.known.with_precedence.Goals as goal

pub returns : goal.returns
returns c = added c.args.pair c.row_of-first.result c.row_of-second.result c.args.table c.loop-row.table c.with_cell-after.result c.loop-row.row
    c.row_of-first.ensures.value c.row_of-second.ensures.value c.requires c.loop-row-test.false c.loop-row.invariant.done c.with_cell-after.ensures
