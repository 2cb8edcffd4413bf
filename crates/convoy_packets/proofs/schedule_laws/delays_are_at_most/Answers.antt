use Rattle.convoy_packets.proofs.Ranges.{at_most}
use Rattle.convoy_packets.proofs.schedule_laws.delays_are_at_most.Goals as goal

pub returns : goal.returns
returns c = at_most
