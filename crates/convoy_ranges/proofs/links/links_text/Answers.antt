use Rattle.std.proofs.Common.{sym, arith}
use Rattle.std.proofs.lemmas.Result.{err_from_is_err_and}
use Rattle.convoy_ranges.proofs.Linked.{link_done, link_more, link_stops}
use Rattle.convoy_ranges.proofs.links.links_text.Goals as goal

pub returns-in_err-range : goal.returns-in_err-range
returns-in_err-range c =
    let p = err_from_is_err_and c.from_residual.result c.from_residual.ensures.1 in
    rw (p.1, p.2)
    (link_stops c.args.asked.now c.args.pairs.now c.pair-item.result c.loop-pair.pair-index _ _ _ (omega arith) c.pair-item.is
    (sym c.in_err-range.ensures.value) c.loop-pair.invariant)

pub loop-pair-preserved : goal.loop-pair-preserved
loop-pair-preserved c =
    rw (c.in_ok-push_str.ensures.bytes, c.as_str.ensures.value, c.in_ok-link.ensures)
    (link_more c.args.asked.now c.args.pairs.now c.pair-item.result c.loop-pair.pair-index _ _ _ (omega arith) c.pair-item.is
    (sym c.in_ok-range.ensures.value) c.loop-pair.invariant)

pub returns : goal.returns
returns c = link_done c.args.asked.now c.args.pairs.now c.loop-pair.pair-index _ _ (omega arith) c.loop-pair.invariant
