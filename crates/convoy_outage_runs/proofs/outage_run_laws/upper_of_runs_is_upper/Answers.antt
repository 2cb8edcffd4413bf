use Rattle.convoy_outage_runs.proofs.Ordinary.{upper_without}
use Rattle.convoy_outage_runs.proofs.outage_run_laws.upper_of_runs_is_upper.Goals as goal

pub returns : goal.returns
returns c = upper_without c.delays_are_within.ensures c.waits_are_at_most.ensures
