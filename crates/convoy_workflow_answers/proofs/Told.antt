-- What is written of a workflow, from what its calls answered.
use Rattle.std.proofs.Common.{◌≡◌, ℕ, List, Option, Ok, ap, subst, ◌∙◌}
use Rattle.convoy_draft.specs.declared.duration.TimeUnit.{TimeUnit}
use Rattle.convoy_scenario.specs.Scenario.{Scenario}
use Rattle.convoy_scenario.specs.WellFormed.{IsScenario}
use Rattle.convoy_times.specs.Measures.{measure_by}
use Rattle.convoy_times.specs.declared.measure.Measure.{Measure}
use Rattle.convoy_toml.specs.declared.asked.Asked.{Asked}
use Rattle.convoy_toml.specs.declared.outside.LinkShare.{LinkShare}
use Rattle.convoy_toml.specs.Reading.{shares_of_text, unit_written}
use Rattle.convoy_outside.specs.Sums.{outside_told}
use Rattle.convoy_workflows.specs.Reading.{deadlines_of_workflow, workflow_of_text}
use Rattle.convoy_workflows.specs.Workflows.{WorkflowView}
use Rattle.convoy_branch.specs.Options.{Settings}
use Rattle.convoy_commands.specs.declared.done.Done.{Done}
use Rattle.convoy_commands.specs.Measured.{measure_of_text}
use Rattle.convoy_commands.specs.Outsides.{outside_of_text}
use Rattle.convoy_commands.specs.Verdicts.{deadline_at, judged}
use Rattle.convoy_workflow_answers.specs.declared.found.Found.{Found}
use Rattle.convoy_workflow_answers.specs.LateRuns.{IsRunTold, IsLateRun}
use Rattle.convoy_workflow_answers.specs.WorkflowLatencies.{IsFound, IsWorkflowLatency, found_end, least_of, most_of, workflow_deadline, workflow_latency_text}

pub workflow_told : (asked : Asked) (settings : Settings) (in_text : Option TimeUnit) (measure : Option Measure) (deadline outside : Option ℕ)
    (deadlines : List (Option ℕ)) (shares : List LinkShare) (text out : List ℕ) (workflow : WorkflowView) (same : Scenario) (message least most : ℕ)
    (found : Found) (end done : Done)
    → workflow_of_text asked text ≡ Ok workflow → in_text ≡ unit_written text → deadlines ≡ deadlines_of_workflow asked text → shares ≡ shares_of_text text
    → measure ≡ measure_by settings.unit in_text workflow.scenario → message ≡ workflow.scenario.target_message → deadline ≡ deadline_at deadlines message
    → same ≡ workflow.scenario → IsScenario same → outside ≡ outside_told shares same
    → IsFound (record { scenario = same; causes = workflow.causes; origin = workflow.origin }) found
    → out ≡ workflow_latency_text measure deadline outside found
    → least ≡ least_of found → most ≡ most_of found → end ≡ found_end found → done ≡ judged deadline least most end
    → IsWorkflowLatency asked settings text done out
workflow_told asked settings in_text measure deadline outside deadlines shares text out workflow same message least most found end done read written_in are tell measured of_message within is lawful outside_is true written at_least at_most ends judged_so = record {
  workflow = workflow;
  found = found;
  read = read;
  lawful = subst IsScenario is lawful;
  is_found = subst (λ (s : Scenario). IsFound (record { scenario = s; causes = workflow.causes; origin = workflow.origin }) found) is true;
  written = rw (on_measure, on_deadline, on_outside) at written;
  ends = rw (ends, at_least, at_most, on_deadline) at judged_so;
} where
  on_measure : measure ≡ measure_of_text settings.unit text workflow.scenario
  on_measure = measured ∙ ap (λ (u : Option TimeUnit). measure_by settings.unit u workflow.scenario) written_in

  on_deadline : deadline ≡ workflow_deadline asked text workflow
  on_deadline =
      within
      ∙ ap (λ (times : List (Option ℕ)). deadline_at times message) are
      ∙ ap (λ (m : ℕ). deadline_at (deadlines_of_workflow asked text) m) of_message

  on_outside : outside ≡ outside_of_text text workflow.scenario
  on_outside =
      outside_is
      ∙ ap (λ (s : Scenario). outside_told shares s) is
      ∙ ap (λ (told : List LinkShare). outside_told told workflow.scenario) tell

pub run_told : (asked : Asked) (text out : List ℕ) (workflow : WorkflowView) (same : Scenario) (end : Done)
    → workflow_of_text asked text ≡ Ok workflow → same ≡ workflow.scenario → IsScenario same
    → IsRunTold (record { scenario = same; causes = workflow.causes; origin = workflow.origin }) end out
    → IsLateRun asked text end out
run_told asked text out workflow same end read is lawful run = record {
  workflow = workflow;
  read = read;
  lawful = subst IsScenario is lawful;
  run = subst (λ (s : Scenario). IsRunTold (record { scenario = s; causes = workflow.causes; origin = workflow.origin }) end out) is run;
}
