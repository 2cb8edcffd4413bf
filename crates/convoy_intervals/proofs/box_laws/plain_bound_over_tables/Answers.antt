use Rattle.convoy_intervals.proofs.PlainBound.{latency_le}
use Rattle.convoy_intervals.proofs.box_laws.plain_bound_over_tables.Goals as goal

pub returns : goal.returns
returns c plan schedule tables lawful enclosed =
    latency_le plan schedule tables enclosed lawful.addressed (c.delivery_bound.ensures plan schedule lawful plan.target_message plan.target_group lawful.addressed)
