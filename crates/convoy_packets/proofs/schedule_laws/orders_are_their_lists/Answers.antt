use Rattle.convoy_packets.proofs.OrderLists.{order_again}
use Rattle.convoy_packets.proofs.schedule_laws.orders_are_their_lists.Goals as goal

pub returns : goal.returns
returns c = order_again
