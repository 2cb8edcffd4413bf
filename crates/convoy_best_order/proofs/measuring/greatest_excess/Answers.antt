use Rattle.std.proofs.Common.{subst, map, List}
use Rattle.std.specs.List.{All}
use Rattle.std.proofs.lemmas.List.{get_or_default, take_all}
use Rattle.convoy_best_order.specs.declared.best.Row.{Row}
use Rattle.convoy_best_order.specs.declared.excess.Excess.{Excess}
use Rattle.convoy_best_order.specs.Best.{excess_of_row}
use Rattle.convoy_best_order.specs.Excesses.{IsAtMost}
use Rattle.convoy_best_order.proofs.Measures.{none_greater, still_one_too}
use Rattle.convoy_best_order.proofs.measuring.greatest_excess.Goals as goal

pub loop-row-preserved : goal.loop-row-preserved
loop-row-preserved c =
    rw (c.greater-greatest.ensures, c.excess_of_row.ensures)
    (record {
      one_of = still_one_too excess_of_row c.args.rows.now c.loop-row.row-index _ c.loop-row-test.true
          (get_or_default c.args.rows.now c.loop-row.row-index _ _ c.loop-row-test.true)
          c.loop-row.greatest c.loop-row.invariant.one_of;
      none_greater = none_greater excess_of_row c.args.rows.now c.loop-row.row-index _ c.loop-row-test.true
          (get_or_default c.args.rows.now c.loop-row.row-index _ _ c.loop-row-test.true)
          c.loop-row.greatest c.loop-row.invariant.none_greater;
    })

pub returns : goal.returns
returns c = record {
  one_of = c.loop-row.invariant.one_of;
  none_greater = subst (λ (rs : List Row). All (λ (excess : Excess). IsAtMost excess c.loop-row.greatest) (map excess_of_row rs))
      (take_all c.loop-row.row-index c.args.rows.now c.loop-row-test.false) c.loop-row.invariant.none_greater;
}
