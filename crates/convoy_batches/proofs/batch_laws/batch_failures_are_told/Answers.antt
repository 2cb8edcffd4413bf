use Rattle.convoy_commands.specs.Searches.{LatencySays}
use Rattle.convoy_batches.proofs.BatchFailures.{batch_failures_told}
use Rattle.convoy_batches.proofs.batch_laws.batch_failures_are_told.Goals as goal

pub returns : goal.returns
returns c = λ asked settings. batch_failures_told (LatencySays asked settings)
