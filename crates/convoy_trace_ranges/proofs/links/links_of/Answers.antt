use Rattle.std.proofs.Common.{arith}
use Rattle.std.proofs.lemmas.Result.{err_from_is_err_and}
use Rattle.convoy_trace_ranges.proofs.Joining.{link_more, link_stops, links_done}
use Rattle.convoy_trace_ranges.proofs.links.links_of.Goals as goal

pub returns-in_err-put_came : goal.returns-in_err-put_came
returns-in_err-put_came c =
    let p = err_from_is_err_and c.from_residual.result c.from_residual.ensures.1 in
    rw (p.1, p.2)
    (link_stops c.args.told.now c.entries-one-items.result.now c.loop-one.links.items c.one-item.result c.loop-one.one-index _ (omega arith) c.one-item.is c.loop-one.invariant _ c.in_err-put_came.ensures)

pub loop-one-preserved : goal.loop-one-preserved
loop-one-preserved c =
    link_more c.args.told.now c.entries-one-items.result.now c.loop-one.links.items c.one-item.result c.loop-one.one-index _ (omega arith) c.one-item.is c.loop-one.invariant _ c.in_ok-put_came.ensures

pub returns : goal.returns
returns c =
    links_done c.args.told.now c.entries-one-items.result.now c.loop-one.links.items c.loop-one.one-index _ (omega arith) c.loop-one.invariant
