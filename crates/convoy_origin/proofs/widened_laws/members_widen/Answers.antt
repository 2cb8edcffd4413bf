use Rattle.convoy_origin.proofs.WidenedRegions.{members_widen}
use Rattle.convoy_origin.proofs.widened_laws.members_widen.Goals as goal

pub returns : goal.returns
returns c = members_widen
