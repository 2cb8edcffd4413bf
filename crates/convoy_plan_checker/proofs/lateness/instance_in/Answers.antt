use Rattle.std.proofs.Common.{◌≡◌, Ok, sym, subst}
use Rattle.convoy_scenario.specs.Scenario.{Scenario}
use Rattle.convoy_best_order.specs.Orders.{listed}
use Rattle.convoy_best_order.specs.Targets.{asked_of}
use Rattle.convoy_plan_checker.proofs.lateness.instance_in.Goals as goal

pub returns : goal.returns
returns c =
    subst (λ (s : Scenario). listed (asked_of c.args.scenario.now c.args.target) c.args.order.now ≡ Ok s) (sym c.in_ok-instance.ensures)
    (subst (λ (s : Scenario). listed s c.args.order.now ≡ Ok c.in_ok-other.other) c.in_ok-asked.ensures c.in_ok-other.ensures)
