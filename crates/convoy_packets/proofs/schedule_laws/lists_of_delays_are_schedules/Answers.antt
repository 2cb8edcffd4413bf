use Rattle.convoy_packets.proofs.GivenLists.{given_just_if_delays}
use Rattle.convoy_packets.proofs.schedule_laws.lists_of_delays_are_schedules.Goals as goal

pub returns : goal.returns
returns c = given_just_if_delays
