use Rattle.convoy_packets.proofs.OrderLists.{list_few}
use Rattle.convoy_packets.proofs.schedule_laws.ranks_are_few.Goals as goal

pub returns : goal.returns
returns c = list_few
