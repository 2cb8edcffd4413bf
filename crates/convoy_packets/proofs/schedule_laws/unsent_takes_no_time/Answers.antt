use Rattle.convoy_packets.proofs.Ranges.{no_time_if_unsent}
use Rattle.convoy_packets.proofs.schedule_laws.unsent_takes_no_time.Goals as goal

pub returns : goal.returns
returns c = no_time_if_unsent
