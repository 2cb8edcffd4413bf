use Rattle.convoy_packets.proofs.Ranges.{within_if_sent}
use Rattle.convoy_packets.proofs.schedule_laws.delays_are_within.Goals as goal

pub returns : goal.returns
returns c = within_if_sent
