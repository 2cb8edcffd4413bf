use Rattle.convoy_origin.proofs.WidenedRuns.{assignments_widen}
use Rattle.convoy_origin.proofs.origin_laws.assignments_widen.Goals as goal

pub returns : goal.returns
returns c = assignments_widen
