use Rattle.std.proofs.Common.{◌≡◌, Ok, sym, subst}
use Rattle.std.proofs.lemmas.Result.{IfOk-weaker}
use Rattle.convoy_scenario.specs.Scenario.{Scenario}
use Rattle.convoy_best_order.specs.Orders.{IsOrder, listed}
use Rattle.convoy_best_order.specs.Spreads.{IsSpread, IsSpreadIn}
use Rattle.convoy_best_order.proofs.Around.{order_at}
use Rattle.convoy_best_order.proofs.searching.spread_in.Goals as goal

pub listed-requires : goal.listed-requires
listed-requires g c =
    subst (λ (s : Scenario). IsOrder s c.args.order.now) (sym c.in_ok-asked.ensures)
    (order_at c.args.span c.args.scenario.now c.args.target c.args.order.now c.requires.order)

pub returns : goal.returns
returns g c =
    IfOk-weaker c.spread.result (IsSpread c.args.options.now c.in_ok-instance.instance) (IsSpreadIn c.args.options.now c.args.span c.args.scenario.now c.args.order.now c.args.target)
    (λ spread found. record {
      instance = c.in_ok-instance.instance;
      made = subst (λ (s : Scenario). listed s c.args.order.now ≡ Ok c.in_ok-instance.instance) c.in_ok-asked.ensures c.in_ok-instance.ensures;
      found = found;
    })
    c.spread.ensures
