use Rattle.std.proofs.Common.{None, Ok, refl}
use Rattle.convoy_scenario.specs.Scenario.{Scenario}
use Rattle.convoy_survey.specs.declared.finding.Surveyed.{Surveyed}
use Rattle.convoy_batches.proofs.batch_laws.job_verdicts_hold.Goals as goal

pub returns : goal.returns
returns c = λ asked settings text found deadline verdict searched has said.
    let scenario : Scenario = found.instance in
    let row : Surveyed = record { message = scenario.target_message; group = scenario.target_group; finding = found.finding } in
    c.row_verdicts_hold.ensures settings None scenario row deadline verdict (record { answer = Ok found.finding; given = searched.finding; told = refl }) (rw has at said)
