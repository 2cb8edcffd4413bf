use Rattle.convoy_causes.proofs.MovedCauses.{caused_moves}
use Rattle.convoy_causes.proofs.cause_laws.caused_runs_move.Goals as goal

pub returns : goal.returns
returns c = caused_moves c.runs_shift.ensures c.assignments_widen.ensures
