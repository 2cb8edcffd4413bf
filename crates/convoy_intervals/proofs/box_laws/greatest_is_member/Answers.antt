use Rattle.convoy_packets.specs.Assignment.{ranges_of}
use Rattle.convoy_intervals.proofs.Members.{AreRanges-box, IsIn-greatest}
use Rattle.convoy_intervals.proofs.box_laws.greatest_is_member.Goals as goal

pub returns : goal.returns
returns c plan ranges box = IsIn-greatest ranges (AreRanges-box (ranges_of plan) ranges box)
