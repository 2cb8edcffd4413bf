use Rattle.convoy_certificate.proofs.reading.read_order.Goals as goal

pub returns-in-Ticks-clause-lawful : goal.returns-in-Ticks-clause-lawful
returns-in-Ticks-clause-lawful c = rw c.none.ensures (c.fixed_order_is_order.ensures c.args.scenario.now)
