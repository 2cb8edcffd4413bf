use Rattle.convoy_tasks.proofs.Failures.{failures_told}
use Rattle.convoy_tasks.proofs.task_laws.failures_are_told.Goals as goal

pub returns : goal.returns
returns c = failures_told
