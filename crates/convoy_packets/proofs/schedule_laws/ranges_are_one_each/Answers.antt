use Rattle.convoy_packets.proofs.Ranges.{length-ranges_of}
use Rattle.convoy_packets.proofs.schedule_laws.ranges_are_one_each.Goals as goal

pub returns : goal.returns
returns c = length-ranges_of
