use Rattle.convoy_origin.proofs.WidenedRegions.{regions_widen}
use Rattle.convoy_origin.proofs.widened_laws.regions_widen.Goals as goal

pub returns : goal.returns
returns c = regions_widen
