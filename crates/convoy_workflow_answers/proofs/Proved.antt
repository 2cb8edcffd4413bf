-- What is written of a workflow whose greatest time is to be proved, from what its calls answered.
use Rattle.std.proofs.Common.{◌≡◌, ◌⊎◌, inl, inr, ℕ, List, ◌++◌, Option, Some, Ok, ap, subst, sym, ◌∙◌}
use Rattle.convoy_scenario.specs.Scenario.{Scenario}
use Rattle.convoy_scenario.specs.WellFormed.{IsScenario}
use Rattle.convoy_packets.specs.Assignment.{Schedule}
use Rattle.convoy_draft.specs.declared.duration.TimeUnit.{TimeUnit}
use Rattle.convoy_times.specs.Measures.{measure_by}
use Rattle.convoy_times.specs.declared.measure.Measure.{Measure}
use Rattle.convoy_toml.specs.declared.asked.Asked.{Asked}
use Rattle.convoy_toml.specs.Reading.{unit_written}
use Rattle.convoy_branch.specs.Options.{Settings}
use Rattle.convoy_commands.specs.Measured.{measure_of_text}
use Rattle.convoy_causes.specs.declared.cause.Cause.{Cause}
use Rattle.convoy_workflow_certificate.specs.declared.workflow_certificate.WorkflowCertificate.{WorkflowCertificate}
use Rattle.convoy_workflow_certificate.specs.WorkflowTexts.{workflow_certificate_text}
use Rattle.convoy_workflows.specs.Reading.{deadlines_of_workflow, workflow_of_text}
use Rattle.convoy_workflows.specs.Workflows.{WorkflowView}
use Rattle.convoy_commands.specs.declared.done.Done.{Done}
use Rattle.convoy_commands.specs.declared.done.Done.TheVariants.{Fine}
use Rattle.convoy_commands.specs.Verdicts.{deadline_at, judged}
use Rattle.convoy_workflow_answers.specs.declared.found.Found.{Found}
use Rattle.convoy_workflow_answers.specs.SoughtTimes.{IsRunGiven}
use Rattle.convoy_workflow_answers.specs.WorkflowLatencies.{IsFound, found_end, found_line, least_of, most_of, workflow_deadline}
use Rattle.convoy_workflow_answers.specs.WorkflowProofs.{IsProvedBy, IsWorkflowFound, IsWorkflowProof, IsWrittenOfRun, run_text, workflow_in}

module _ (asked : Asked) (settings : Settings) (in_text : Option TimeUnit) (measure : Option Measure) (deadlines : List (Option ℕ)) (text : List ℕ) (workflow : WorkflowView) (same : Scenario) (message : ℕ) (deadline : Option ℕ)
    (found : Found) (schedule : Option Schedule) (done : Done)
    (read : workflow_of_text asked text ≡ Ok workflow) (written_in : in_text ≡ unit_written text) (measured : measure ≡ measure_by settings.unit in_text workflow.scenario) (are : deadlines ≡ deadlines_of_workflow asked text)
    (of_message : message ≡ workflow.scenario.target_message) (within : deadline ≡ deadline_at deadlines message)
    (is : same ≡ workflow.scenario) (lawful : IsScenario same)
    (so : IsFound (record { scenario = same; causes = workflow.causes; origin = workflow.origin }) found)
    (run : IsRunGiven (record { scenario = same; causes = workflow.causes; origin = workflow.origin }) found schedule)
    (judged_so : done ≡ judged deadline (least_of found) (most_of found) (found_end found)) where
  on_deadline : deadline ≡ workflow_deadline asked text workflow
  on_deadline =
      within
      ∙ ap (λ (times : List (Option ℕ)). deadline_at times message) are
      ∙ ap (λ (m : ℕ). deadline_at (deadlines_of_workflow asked text) m) of_message

  on_measure : measure ≡ measure_of_text settings.unit text workflow.scenario
  on_measure = measured ∙ ap (λ (u : Option TimeUnit). measure_by settings.unit u workflow.scenario) written_in

  -- what was found is written
  pub found_told : (out : List ℕ) → out ≡ found_line measure found ++ run_text same schedule → IsWorkflowFound asked settings text done out
  found_told out written = record {
    workflow = workflow;
    found = found;
    schedule = schedule;
    read = read;
    lawful = subst IsScenario is lawful;
    is_found = subst (λ (s : Scenario). IsFound (record { scenario = s; causes = workflow.causes; origin = workflow.origin }) found) is so;
    run = subst (λ (s : Scenario). IsRunGiven (record { scenario = s; causes = workflow.causes; origin = workflow.origin }) found schedule) is run;
    written =
        subst (λ (m : Option Measure). out ≡ found_line m found ++ run_text workflow.scenario schedule) on_measure
        (subst (λ (s : Scenario). out ≡ found_line measure found ++ run_text s schedule) is written);
    ends = subst (λ (d : Option ℕ). done ≡ judged d (least_of found) (most_of found) (found_end found)) on_deadline judged_so;
  }

  -- the certificate is written that a run makes
  module _ (certificate : WorkflowCertificate) (its_causes : certificate.causes.items ≡ workflow.causes) (its_origin : certificate.origin ≡ workflow.origin)
      (its_scenario : certificate.run.scenario ≡ same) where
    same_workflow : workflow ≡ workflow_in certificate
    same_workflow =
        ap (λ (s : Scenario). record { scenario = s; causes = workflow.causes; origin = workflow.origin }) (sym (its_scenario ∙ is))
        ∙ ap (λ (causes : List Cause). record { scenario = certificate.run.scenario; causes = causes; origin = workflow.origin }) (sym its_causes)
        ∙ ap (λ (x : ℕ). record { scenario = certificate.run.scenario; causes = certificate.causes.items; origin = x }) (sym its_origin)

    proof_told : (out : List ℕ) → out ≡ workflow_certificate_text certificate → IsProvedBy certificate found → IsWorkflowProof asked text done out
    proof_told out written proved = record {
      certificate = certificate;
      lawful = proved.lawful;
      read = read ∙ ap (λ (w : WorkflowView). Ok w) same_workflow;
      written = written;
      valid = proved.valid;
      greatest = proved.greatest;
      ends =
          subst (λ (w : WorkflowView). done ≡ judged (workflow_deadline asked text w) certificate.run.latency certificate.run.latency Fine) same_workflow
          (subst (λ (d : Option ℕ). done ≡ judged d certificate.run.latency certificate.run.latency Fine) on_deadline
          (subst (λ (f : Found). done ≡ judged deadline (least_of f) (most_of f) (found_end f)) proved.time judged_so));
    }

    -- the one or the other is written
    pub run_written : (out : List ℕ) → schedule ≡ Some certificate.run.schedule → IsWrittenOfRun measure certificate found out
        → IsWorkflowProof asked text done out ⊎ IsWorkflowFound asked settings text done out
    run_written out given (inl proved) = inl (proof_told out proved.0 proved.1)
    run_written out given (inr written) =
        inr
        (found_told out
        (subst (λ (s : Scenario). out ≡ found_line measure found ++ run_text s schedule) its_scenario
        (subst (λ (given : Option Schedule). out ≡ found_line measure found ++ run_text certificate.run.scenario given) (sym given) written)))
