use Rattle.convoy_outages.proofs.Ordinary.{keeps_links}
use Rattle.convoy_outages.proofs.outage_laws.traffic_keeps_links.Goals as goal

pub returns : goal.returns
returns c = keeps_links c.delays_are_within.ensures c.fixed_order_is_order.ensures
