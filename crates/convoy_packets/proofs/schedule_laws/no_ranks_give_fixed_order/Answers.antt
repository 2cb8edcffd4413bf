use Rattle.convoy_packets.proofs.OrderLists.{no_list}
use Rattle.convoy_packets.proofs.schedule_laws.no_ranks_give_fixed_order.Goals as goal

pub returns : goal.returns
returns c = no_list
