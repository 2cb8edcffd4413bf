use Rattle.convoy_origin.proofs.LaterRuns.{runs_shift}
use Rattle.convoy_origin.proofs.shift_laws.runs_shift.Goals as goal

pub returns : goal.returns
returns c = runs_shift
