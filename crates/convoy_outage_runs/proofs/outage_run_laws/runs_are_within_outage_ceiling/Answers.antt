use Rattle.convoy_outage_runs.proofs.WithinCeiling.{within_ceiling}
use Rattle.convoy_outage_runs.proofs.outage_run_laws.runs_are_within_outage_ceiling.Goals as goal

pub returns : goal.returns
returns c = within_ceiling c.outage_ceiling_holds.ensures
