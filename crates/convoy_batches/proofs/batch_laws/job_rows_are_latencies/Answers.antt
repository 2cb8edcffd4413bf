use Rattle.std.proofs.Common.{None}
use Rattle.convoy_scenario.specs.Scenario.{Scenario}
use Rattle.convoy_batches.proofs.batch_laws.job_rows_are_latencies.Goals as goal

pub returns : goal.returns
returns c = λ asked settings other text out end found latency nodes cause searched is told.
    let scenario : Scenario = found.instance in
    rw (searched.deadline, searched.outside)
    (c.rows_are_latencies.ensures settings other None asked scenario scenario.target_message scenario.target_group latency nodes cause text out end
    (rw is at searched.finding) searched.read told)
