-- What `analyse` writes of a workflow: a certificate of its greatest time, or else what was found of that.
use Rattle.std.specs.Prelude.{◌≡◌, ◌⊎◌, ℕ, List, [], ◌++◌, Option, Some, None, Ok, Err}
use Rattle.convoy_scenario.specs.Scenario.{Scenario}
use Rattle.convoy_scenario.specs.WellFormed.{IsScenario}
use Rattle.convoy_packets.specs.Assignment.{Schedule}
use Rattle.convoy_certificate.specs.Certificate.{IsCertificate}
use Rattle.convoy_times.specs.declared.measure.Measure.{Measure}
use Rattle.convoy_toml.specs.declared.asked.Asked.{Asked}
use Rattle.convoy_branch.specs.Options.{Settings}
use Rattle.convoy_workflows.specs.Reading.{workflow_of_text}
use Rattle.convoy_workflows.specs.Workflows.{WorkflowView}
use Rattle.convoy_workflow_certificate.specs.declared.workflow_certificate.WorkflowCertificate.{WorkflowCertificate}
use Rattle.convoy_workflow_certificate.specs.WorkflowTexts.{workflow_certificate_text}
use Rattle.convoy_workflow_checker.specs.WorkflowCheckLaws.{IsGreatestOfWorkflow}
use Rattle.convoy_workflow_checker.specs.WorkflowValidity.{IsValidWorkflow}
use Rattle.convoy_commands.specs.declared.done.Done.{Done}
use Rattle.convoy_commands.specs.declared.done.Done.TheVariants.{Fine}
use Rattle.convoy_commands.specs.Measured.{measure_of_text}
use Rattle.convoy_commands.specs.ReplyLines.{schedule_text}
use Rattle.convoy_commands.specs.Replies.{Rule}
use Rattle.convoy_commands.specs.Verdicts.{judged}
use Rattle.convoy_workflow_answers.specs.declared.found.Found.{Found}
use Rattle.convoy_workflow_answers.specs.declared.found.Found.TheVariants.{Greatest}
use Rattle.convoy_workflow_answers.specs.SoughtTimes.{IsRunGiven}
use Rattle.convoy_workflow_answers.specs.WorkflowLatencies.{IsFaultyWorkflow, IsFound, found_end, found_line, least_of, most_of, workflow_deadline}

-- the workflow of which a certificate speaks
abbrev pub workflow_in : WorkflowCertificate → WorkflowView
workflow_in certificate =
    record { scenario = certificate.run.scenario; causes = certificate.causes.items; origin = certificate.origin }

-- THE HEADLINE. What is written is a certificate of the workflow that was read: the certificate is valid, and the time that it states is the greatest from the issue of the origin to the delivery of the target, among all runs of the workflow in which messages follow their causes. How the command ends, the deadline of the target says where there is one.
pub record IsWorkflowProof (asked : Asked) (text : List ℕ) (end : Done) (out : List ℕ) : Type 0 where
  pub certificate : WorkflowCertificate
  pub lawful : IsCertificate certificate.run
  pub read : workflow_of_text asked text ≡ Ok (workflow_in certificate)
  pub written : out ≡ workflow_certificate_text certificate
  pub valid : IsValidWorkflow certificate
  pub greatest : IsGreatestOfWorkflow certificate
  pub ends : end ≡ judged (workflow_deadline asked text (workflow_in certificate)) certificate.run.latency certificate.run.latency Fine

-- the lines of the schedule that is given; nothing where none is
abbrev pub run_text : Scenario → Option Schedule → List ℕ
run_text scenario None = []
run_text scenario (Some schedule) = schedule_text scenario schedule

-- What is written is what was found of the greatest time, as `latency` tells it, and below it the schedule of the run that takes longest of those that were found. How the command ends, the deadline of the target says where there is one.
pub record IsWorkflowFound (asked : Asked) (settings : Settings) (text : List ℕ) (end : Done) (out : List ℕ) : Type 0 where
  pub workflow : WorkflowView
  pub found : Found
  pub schedule : Option Schedule
  pub read : workflow_of_text asked text ≡ Ok workflow
  pub lawful : IsScenario workflow.scenario
  pub is_found : IsFound workflow found
  pub run : IsRunGiven workflow found schedule
  pub written : out ≡ found_line (measure_of_text settings.unit text workflow.scenario) found ++ run_text workflow.scenario schedule
  pub ends : end ≡ judged (workflow_deadline asked text workflow) (least_of found) (most_of found) (found_end found)

-- what `analyse` may answer of a workflow text
abbrev pub WorkflowProofSays : Asked → Settings → Rule
WorkflowProofSays asked settings text (Ok (end, out)) = IsWorkflowProof asked text end out ⊎ IsWorkflowFound asked settings text end out
WorkflowProofSays asked settings text (Err fault) = IsFaultyWorkflow asked text fault

-- ---- words of the program's own parts: no promise rests on them
-- what was found is the time of the certificate, which is valid
pub record IsProvedBy (certificate : WorkflowCertificate) (found : Found) : Type 0 where
  pub lawful : IsCertificate certificate.run
  pub valid : IsValidWorkflow certificate
  pub greatest : IsGreatestOfWorkflow certificate
  pub time : found ≡ Greatest certificate.run.latency

-- what is written of a run that was found, by the certificate that it makes: that, where it proves what was found, or else this and the run's schedule
abbrev pub IsWrittenOfRun : Option Measure → WorkflowCertificate → Found → List ℕ → Type 0
IsWrittenOfRun measure certificate found out =
    ((out ≡ workflow_certificate_text certificate) × IsProvedBy certificate found)
    ⊎ (out ≡ found_line measure found ++ schedule_text certificate.run.scenario certificate.run.schedule)
