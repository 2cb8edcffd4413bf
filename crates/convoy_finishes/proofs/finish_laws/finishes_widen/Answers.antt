use Rattle.convoy_finishes.proofs.WidenedFinishes.{finishes_widen}
use Rattle.convoy_finishes.proofs.finish_laws.finishes_widen.Goals as goal

pub returns : goal.returns
returns c = finishes_widen c.runs_shift.ensures
