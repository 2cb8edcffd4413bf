use Rattle.convoy_outage_runs.proofs.Formed.{formed}
use Rattle.convoy_outage_runs.proofs.outage_run_laws.compressed_is_scenario.Goals as goal

pub returns : goal.returns
returns c = formed
