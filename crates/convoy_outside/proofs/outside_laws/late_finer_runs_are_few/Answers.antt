use Rattle.convoy_outside.proofs.SameSums.{finer_are_few}
use Rattle.convoy_outside.proofs.outside_laws.late_finer_runs_are_few.Goals as goal

pub returns : goal.returns
returns c = finer_are_few c.late_runs_are_few.ensures c.scenarios_are_roundable.ensures c.whole_ticks_are_enough.ensures
