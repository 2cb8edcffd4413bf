use Rattle.convoy_orders.proofs.Orders.{none_below}
use Rattle.convoy_orders.proofs.order_laws.no_order_is_below.Goals as goal

pub returns : goal.returns
returns c = none_below c.renumbered_runs_agree.ensures c.fewer_behind_is_no_later.ensures
