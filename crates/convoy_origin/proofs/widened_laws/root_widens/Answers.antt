use Rattle.convoy_origin.proofs.WidenedRegions.{root_widens}
use Rattle.convoy_origin.proofs.widened_laws.root_widens.Goals as goal

pub returns : goal.returns
returns c = root_widens
