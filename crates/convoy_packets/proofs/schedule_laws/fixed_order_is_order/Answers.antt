use Rattle.convoy_packets.proofs.Orders.{fixed_is_order}
use Rattle.convoy_packets.proofs.schedule_laws.fixed_order_is_order.Goals as goal

pub returns : goal.returns
returns c = fixed_is_order
