use Rattle.convoy_outside.proofs.Late.{late_are_few}
use Rattle.convoy_outside.proofs.outside_laws.late_runs_are_few.Goals as goal

pub returns : goal.returns
returns c = late_are_few
