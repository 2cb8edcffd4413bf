use Rattle.convoy_packets.specs.Assignment.{ranges_of}
use Rattle.convoy_intervals.proofs.Members.{AreWithin-outer}
use Rattle.convoy_intervals.proofs.box_laws.members_are_assignments.Goals as goal

pub returns : goal.returns
returns c plan ranges schedule box member order =
    record { delays = AreWithin-outer (ranges_of plan) ranges schedule.delays box member; order = order }
