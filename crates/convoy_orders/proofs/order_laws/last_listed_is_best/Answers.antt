use Rattle.convoy_orders.proofs.Orders.{last_best}
use Rattle.convoy_orders.proofs.order_laws.last_listed_is_best.Goals as goal

pub returns : goal.returns
returns c = last_best c.fewer_behind_is_no_slower.ensures
