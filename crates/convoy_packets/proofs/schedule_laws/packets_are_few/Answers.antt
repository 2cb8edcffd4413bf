use Rattle.convoy_packets.proofs.Listed.{length-packets_of-le}
use Rattle.convoy_packets.proofs.schedule_laws.packets_are_few.Goals as goal

pub returns : goal.returns
returns c = length-packets_of-le
