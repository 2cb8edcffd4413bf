use Rattle.convoy_packets.proofs.OrderLists.{none_decided}
use Rattle.convoy_packets.proofs.schedule_laws.fixed_order_is_decided.Goals as goal

pub returns : goal.returns
returns c = none_decided
