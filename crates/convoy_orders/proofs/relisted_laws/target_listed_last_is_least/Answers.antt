use Rattle.convoy_orders.proofs.RelistedOrders.{last_is_least}
use Rattle.convoy_orders.proofs.relisted_laws.target_listed_last_is_least.Goals as goal

pub returns : goal.returns
returns c = last_is_least c.target_listed_last_is_best.ensures
