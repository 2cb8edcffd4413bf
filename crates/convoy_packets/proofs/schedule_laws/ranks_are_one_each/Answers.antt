use Rattle.convoy_packets.proofs.OrderLists.{list_long, list_low}
use Rattle.convoy_packets.proofs.schedule_laws.ranks_are_one_each.Goals as goal

pub returns : goal.returns
returns c = λ plan order is. (list_long plan order is, list_low plan order is)
