use Rattle.std.proofs.Common.{ℕ, List, map, subst}
use Rattle.convoy_best_order.specs.declared.best.Reason.{Reason}
use Rattle.convoy_best_order.specs.declared.best.Row.{Row}
use Rattle.convoy_best_order.specs.Best.{AreRows, excess_of_reason, excess_of_row}
use Rattle.convoy_best_order.specs.Excesses.{IsGreatestOf, IsLeastOf}
use Rattle.convoy_best_order.proofs.Held.{best_exact}
use Rattle.convoy_best_order.proofs.choosing.best_order.Goals as goal

pub returns : goal.returns
returns g c =
    let rows = subst (λ (order : List ℕ). AreRows c.args.options.now c.args.span c.args.scenario.now c.args.targets.now order c.in_ok-rows.rows.items) c.deref.ensures.value
    c.in_ok-rows.ensures in
    let least = subst (λ (reasons : List Reason). IsLeastOf (map excess_of_reason reasons) c.least_excess-least.result) c.deref-2.ensures.value
    c.least_excess-least.ensures in
    let most = subst (λ (rows : List Row). IsGreatestOf (map excess_of_row rows) c.greatest_excess-most.result) c.deref-3.ensures.value
    c.greatest_excess-most.ensures in
    record {
      order = c.in_ok-order.ensures.order;
      rows = rows;
      most = most;
      reasons = c.in_ok-order.ensures.reasons;
      least = least;
      exact = best_exact c.args.options.now c.args.span c.args.scenario.now c.args.targets.now c.in_ok-order.order.items c.in_ok-rows.rows.items c.in_ok-order.reasons.items
          c.least_excess-least.result c.greatest_excess-most.result c.in_ok-order.ensures.order rows most least c.in_ok-order.ensures.held;
    }
