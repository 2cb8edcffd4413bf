use Rattle.convoy_packets.proofs.Sent.{found_if_sent}
use Rattle.convoy_packets.proofs.schedule_laws.packets_are_those_sent.Goals as goal

pub returns : goal.returns
returns c = found_if_sent
