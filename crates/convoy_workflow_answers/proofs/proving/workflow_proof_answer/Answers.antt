use Rattle.std.proofs.Common.{◌≡◌, ◌∙◌, inl, Ok, Option, Some, ap, rules, sym}
use Rattle.convoy_scenario.specs.Scenario.{Scenario}
use Rattle.convoy_scenario.specs.WellFormed.{IsScenario}
use Rattle.convoy_packets.specs.Assignment.{Schedule}
use Rattle.convoy_times.specs.Measures.{measure_by}
use Rattle.convoy_workflows.specs.Reading.{deadlines_of_workflow, view_of, workflow_of_text}
use Rattle.convoy_workflows.specs.Workflows.{WorkflowView}
use Rattle.convoy_commands.specs.Verdicts.{deadline_at, judged}
use Rattle.convoy_workflow_answers.specs.SoughtTimes.{IsRunGiven}
use Rattle.convoy_workflow_answers.specs.WorkflowLatencies.{IsFound, found_end, least_of, most_of}
use Rattle.convoy_workflow_answers.proofs.Proved.{run_written}
use Rattle.convoy_workflow_answers.proofs.proving.workflow_proof_answer.Goals as goal

pub returns-in-Some : goal.returns-in-Some
returns-in-Some c =
    let workflow : WorkflowView = view_of c.in_ok-workflow.workflow in
    let same : Scenario = c.in_ok-instance.instance in
    let certificate = c.certificate_of-certificate.result in
    let found = c.in_ok-found.field-0.found in
    let schedule : Option Schedule = c.in_ok-found.field-0.schedule in
    let read : workflow_of_text c.args.asked.now c.args.text.now ≡ Ok workflow = search rules in
    let are : c.deref.result.now ≡ deadlines_of_workflow c.args.asked.now c.args.text.now = c.deref.ensures.value ∙ c.in_ok-workflow.ensures.deadlines in
    let measured : c.of-measure.result ≡ measure_by c.args.options.now.unit c.in_ok-workflow.workflow.unit workflow.scenario = search rules in
    let lawful : IsScenario same = search rules in
    let so : IsFound (record { scenario = same; causes = workflow.causes; origin = workflow.origin }) found = search rules in
    let run : IsRunGiven (record { scenario = same; causes = workflow.causes; origin = workflow.origin }) found schedule = search rules in
    let judged_so : c.judged-done.result ≡ judged c.deadline_at-deadline.result (least_of found) (most_of found) (found_end found) = search rules in
    let given : schedule ≡ Some certificate.run.schedule = c.in-Some.is ∙ ap (λ (s : Schedule). Some s) (sym c.certificate_of-certificate.ensures.schedule) in
    inl
    (rw (c.about.ensures.done, c.about.ensures.text)
    (run_written c.args.asked.now c.args.options.now c.in_ok-workflow.workflow.unit c.of-measure.result c.deref.result.now c.args.text.now workflow same c.target_message.result c.deadline_at-deadline.result found schedule c.judged-done.result
    read c.in_ok-workflow.ensures.unit measured are c.target_message.ensures.value c.deadline_at-deadline.ensures c.in_ok-instance.ensures lawful so run judged_so
    certificate c.certificate_of-certificate.ensures.causes c.certificate_of-certificate.ensures.origin c.certificate_of-certificate.ensures.scenario
    c.in_ok-text-in-Some.text.items given c.in_ok-text-in-Some.ensures))
