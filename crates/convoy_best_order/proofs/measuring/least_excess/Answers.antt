use Rattle.std.proofs.Common.{subst, map, List}
use Rattle.std.specs.List.{All}
use Rattle.std.proofs.lemmas.List.{take_all}
use Rattle.convoy_best_order.specs.declared.best.Reason.{Reason}
use Rattle.convoy_best_order.specs.Best.{excess_of_reason}
use Rattle.convoy_best_order.specs.Excesses.{IsAtMost}
use Rattle.convoy_best_order.proofs.Measures.{none_less, still_one}
use Rattle.convoy_best_order.proofs.measuring.least_excess.Goals as goal

pub loop-reason-preserved : goal.loop-reason-preserved
loop-reason-preserved c =
    rw (c.lesser-least.ensures, c.excess_of_reason.ensures)
    (record {
      one_of = still_one excess_of_reason c.args.reasons.now c.loop-reason.reason-index c.reason-item.result c.loop-reason-test.true c.reason-item.is
          c.loop-reason.least c.loop-reason.invariant.one_of;
      none_less = none_less excess_of_reason c.args.reasons.now c.loop-reason.reason-index c.reason-item.result c.loop-reason-test.true c.reason-item.is
          c.loop-reason.least c.loop-reason.invariant.none_less;
    })

pub returns : goal.returns
returns c = record {
  one_of = c.loop-reason.invariant.one_of;
  none_less = subst (λ (rs : List Reason). All (IsAtMost c.loop-reason.least) (map excess_of_reason rs))
      (take_all c.loop-reason.reason-index c.args.reasons.now c.loop-reason-test.false) c.loop-reason.invariant.none_less;
}
