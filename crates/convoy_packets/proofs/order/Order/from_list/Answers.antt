use Rattle.convoy_packets.proofs.OrderLists.{given_small}
use Rattle.convoy_packets.proofs.order.Order.from_list.Goals as goal

pub from_ranks-requires : goal.from_ranks-requires
from_ranks-requires c = rw c.deref.ensures.value (given_small c.args.list.now c.in_ok-ranks.ranks.items c.in_ok-ranks.ensures)
