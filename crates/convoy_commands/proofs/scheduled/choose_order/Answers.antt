use Rattle.std.proofs.Common.{sym, subst}
use Rattle.convoy_packets.specs.Order.{IsOrder}
use Rattle.convoy_commands.proofs.scheduled.choose_order.Goals as goal

pub returns-in-None-clause-lawful : goal.returns-in-None-clause-lawful
returns-in-None-clause-lawful c =
    subst (IsOrder c.args.scenario.now) (sym c.none.ensures) (c.fixed_order_is_order.ensures c.args.scenario.now)
