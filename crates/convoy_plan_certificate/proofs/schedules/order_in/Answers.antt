use Rattle.convoy_plan_certificate.proofs.schedules.order_in.Goals as goal

pub returns-in-Ticks-clause-lawful : goal.returns-in-Ticks-clause-lawful
returns-in-Ticks-clause-lawful c = rw c.none.ensures (c.fixed_order_is_order.ensures c.args.scenario.now)
