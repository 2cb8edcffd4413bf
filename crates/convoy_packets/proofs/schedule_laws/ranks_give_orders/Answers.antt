use Rattle.convoy_packets.proofs.OrderLists.{list_is_order}
use Rattle.convoy_packets.proofs.schedule_laws.ranks_give_orders.Goals as goal

pub returns : goal.returns
returns c = list_is_order
