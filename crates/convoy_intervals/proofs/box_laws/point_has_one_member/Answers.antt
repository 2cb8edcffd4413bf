use Rattle.convoy_intervals.proofs.Members.{point_members}
use Rattle.convoy_intervals.proofs.box_laws.point_has_one_member.Goals as goal

pub returns : goal.returns
returns c ranges first second point left right = point_members ranges first.delays second.delays point left right
