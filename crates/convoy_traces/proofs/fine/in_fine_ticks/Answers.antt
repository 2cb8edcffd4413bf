use Rattle.std.proofs.Common.{◌∙◌, sym, arith}
use Rattle.std.proofs.lemmas.Result.{err_from_is_err_and}
use Rattle.convoy_traces.proofs.Numbers.{fine_done, fine_more, fine_stops}
use Rattle.convoy_traces.proofs.fine.in_fine_ticks.Goals as goal

pub returns-in_err-fine_of : goal.returns-in_err-fine_of
returns-in_err-fine_of c =
    let p = err_from_is_err_and c.from_residual.result c.from_residual.ensures.1 in
    rw (p.1, p.2)
    (fine_stops c.args.tick c.args.factor c.args.entries.now _ c.loop-one.one-index _ _ (omega arith) c.loop-one.invariant _ (sym c.fine_of.ensures ∙ c.in_err-fine_of.was))

pub loop-one-preserved : goal.loop-one-preserved
loop-one-preserved c =
    rw c.in_ok-push.ensures.items
    (fine_more c.args.tick c.args.factor c.args.entries.now _ c.loop-one.one-index _ _ (omega arith) c.loop-one.invariant _ (sym c.fine_of.ensures ∙ c.in_ok-fine_of.was))

pub returns : goal.returns
returns c = fine_done c.args.tick c.args.factor c.args.entries.now c.loop-one.one-index _ _ (omega arith) c.loop-one.invariant
