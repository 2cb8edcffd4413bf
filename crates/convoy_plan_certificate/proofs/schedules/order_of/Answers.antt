use Rattle.convoy_plan_certificate.proofs.schedules.order_of.Goals as goal

pub returns-then-is_empty-clause-lawful : goal.returns-then-is_empty-clause-lawful
returns-then-is_empty-clause-lawful c = rw c.none.ensures (c.fixed_order_is_order.ensures c.args.scenario.now)
