use Rattle.std.proofs.Common.{sym, ◌∙◌}
use Rattle.convoy_plan_checker.proofs.Orders.{order_is}
use Rattle.convoy_plan_checker.proofs.lateness.is_order.Goals as goal

pub returns-clause-lawful : goal.returns-clause-lawful
returns-clause-lawful c = λ yes. order_is c.args.scenario.now c.args.order.now (sym c.has_each_once.ensures ∙ yes)
