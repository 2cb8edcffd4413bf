use Rattle.convoy_packets.proofs.Ranges.{length-assignment}
use Rattle.convoy_packets.proofs.schedule_laws.delays_are_one_each.Goals as goal

pub returns : goal.returns
returns c = length-assignment
