use Rattle.convoy_origin.proofs.WidenedRuns.{upper_of_widened}
use Rattle.convoy_origin.proofs.origin_laws.upper_of_widened.Goals as goal

pub returns : goal.returns
returns c = upper_of_widened
