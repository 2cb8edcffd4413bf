use Rattle.convoy_packets.proofs.OrderLists.{list_again}
use Rattle.convoy_packets.proofs.schedule_laws.lists_are_their_orders.Goals as goal

pub returns : goal.returns
returns c = list_again
