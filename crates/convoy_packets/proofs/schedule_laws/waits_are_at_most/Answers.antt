use Rattle.convoy_packets.proofs.Ranges.{wait_at_most}
use Rattle.convoy_packets.proofs.schedule_laws.waits_are_at_most.Goals as goal

pub returns : goal.returns
returns c = wait_at_most
