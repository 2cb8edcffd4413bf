use Rattle.convoy_packets.proofs.Ranges.{least_assignment}
use Rattle.convoy_packets.proofs.schedule_laws.least_is_assignment.Goals as goal

pub returns : goal.returns
returns c = least_assignment
