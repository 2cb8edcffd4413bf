use Rattle.convoy_origin.proofs.WidenedRegions.{closed_by_widened}
use Rattle.convoy_origin.proofs.widened_laws.closed_by_widened.Goals as goal

pub returns : goal.returns
returns c = closed_by_widened
