use Rattle.std.proofs.Common.{sym, arith}
use Rattle.std.proofs.lemmas.Result.{err_from_is_err_and}
use Rattle.convoy_trace_ranges.proofs.Tabled.{table_more, table_stops, tables_done}
use Rattle.convoy_trace_ranges.proofs.answering.with_links.Goals as goal

pub returns-in_err-range : goal.returns-in_err-range
returns-in_err-range c =
    let p = err_from_is_err_and c.from_residual.result c.from_residual.ensures.1 in
    rw (p.1, p.2)
    (table_stops c.args.asked.now _ c.args.links.now c.link-item.result c.loop-link.link-index _ (omega arith) c.link-item.is c.loop-link.invariant _ (sym c.in_err-range.ensures))

pub loop-link-preserved : goal.loop-link-preserved
loop-link-preserved c =
    rw (c.in_ok-push_str.ensures.bytes, c.as_str.ensures.value, c.in_ok-table.ensures)
    (table_more c.args.asked.now _ c.args.links.now c.link-item.result c.loop-link.link-index _ (omega arith) c.link-item.is c.loop-link.invariant _ (sym c.in_ok-range.ensures))

pub returns : goal.returns
returns c = tables_done c.args.asked.now _ c.args.links.now c.loop-link.link-index _ (omega arith) c.loop-link.invariant
