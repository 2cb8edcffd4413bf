-- What is answered of the latency of a target where messages follow others.
use Rattle.std.specs.Prelude.{◌≡◌, ℕ, ◌≤◌, ◌<◌, List, ◌++◌, Option, Ok, Err, codes}
use Rattle.convoy_scenario.specs.Scenario.{Scenario}
use Rattle.convoy_scenario.specs.WellFormed.{IsScenario}
use Rattle.convoy_times.specs.declared.measure.Measure.{Measure}
use Rattle.convoy_toml.specs.declared.asked.Asked.{Asked}
use Rattle.convoy_causes.specs.Causes.{IsCausedReached, IsGreatestCaused, IsUpperOfCaused}
use Rattle.convoy_workflow_words.specs.declared.fault.WorkflowFault.{WorkflowFault}
use Rattle.convoy_workflows.specs.Reading.{deadlines_of_workflow, workflow_of_text}
use Rattle.convoy_workflows.specs.Workflows.{WorkflowView}
use Rattle.convoy_branch.specs.Options.{Settings}
use Rattle.convoy_commands.specs.declared.done.Done.{Done}
use Rattle.convoy_commands.specs.declared.done.Done.TheVariants as ends
use Rattle.convoy_commands.specs.declared.fault.Fault.{Fault}
use Rattle.convoy_commands.specs.Faults.{told_of_workflow}
use Rattle.convoy_commands.specs.Measured.{measure_of_text}
use Rattle.convoy_commands.specs.Outsides.{outside_of_text, outside_text}
use Rattle.convoy_commands.specs.ReplyLines.{greatest_line, open_line, ticks_line}
use Rattle.convoy_commands.specs.Replies.{Rule}
use Rattle.convoy_commands.specs.Verdicts.{deadline_at, judged, verdict_text}
use Rattle.convoy_workflow_answers.specs.declared.found.Found.{Found}
use Rattle.convoy_workflow_answers.specs.declared.found.Found.TheVariants.{Greatest, Between, AtMost}

-- What was found of the greatest time from the issue of a workflow's origin to the delivery of its target is so: it is the greatest; or some run has the one number, and none exceeds the other; or none exceeds it.
abbrev pub IsFound : WorkflowView → Found → Type 0
IsFound workflow (Greatest time) = IsGreatestCaused workflow.scenario workflow.causes workflow.origin time
IsFound workflow (Between least most) =
    IsCausedReached workflow.scenario workflow.causes workflow.origin least
    × IsUpperOfCaused workflow.scenario workflow.causes workflow.origin most
    × (least < most)
IsFound workflow (AtMost most) = IsUpperOfCaused workflow.scenario workflow.causes workflow.origin most

-- what the greatest time is at least, as far as is known, ..
abbrev pub least_of : Found → ℕ
least_of (Greatest time) = time
least_of (Between least most) = least
least_of (AtMost most) = 0

-- .. and at most
abbrev pub most_of : Found → ℕ
most_of (Greatest time) = time
most_of (Between least most) = most
most_of (AtMost most) = most

-- the line that tells it
abbrev pub found_line : Option Measure → Found → List ℕ
found_line measure (Greatest time) = greatest_line measure time
found_line measure (Between least most) = open_line measure least most
found_line measure (AtMost most) = ticks_line (codes "at-most") measure most

-- what is written: what was found, how that keeps the deadline where there is one, and how sure the ranges are where that is told
abbrev pub workflow_latency_text : Option Measure → Option ℕ → Option ℕ → Found → List ℕ
workflow_latency_text measure deadline outside found =
    found_line measure found ++ (verdict_text measure deadline (least_of found) (most_of found) ++ outside_text outside)

-- how the command ends without a deadline: open where the greatest time is not known
abbrev pub found_end : Found → Done
found_end (Greatest time) = ends.Fine
found_end (Between least most) = ends.Open
found_end (AtMost most) = ends.Open

-- the deadline of the target of a workflow
abbrev pub workflow_deadline : Asked → List ℕ → WorkflowView → Option ℕ
workflow_deadline asked text workflow = deadline_at (deadlines_of_workflow asked text) workflow.scenario.target_message

-- THE HEADLINE. What is written is what was found of the greatest time from the issue of the origin to the delivery of the target, among all runs of the workflow that was read in which messages follow their causes; how that keeps the deadline of the target; and how sure the ranges are where that is told. How the command ends, these say alone.
pub record IsWorkflowLatency (asked : Asked) (settings : Settings) (text : List ℕ) (end : Done) (out : List ℕ) : Type 0 where
  pub workflow : WorkflowView
  pub found : Found
  pub read : workflow_of_text asked text ≡ Ok workflow
  pub lawful : IsScenario workflow.scenario
  pub is_found : IsFound workflow found
  pub written : out
      ≡ workflow_latency_text (measure_of_text settings.unit text workflow.scenario) (workflow_deadline asked text workflow)
      (outside_of_text text workflow.scenario) found
  pub ends : end ≡ judged (workflow_deadline asked text workflow) (least_of found) (most_of found) (found_end found)

-- The text is that of no workflow.
pub record IsFaultyWorkflow (asked : Asked) (text : List ℕ) (fault : Fault) : Type 0 where
  pub cause : WorkflowFault
  pub read : workflow_of_text asked text ≡ Err cause
  pub told : fault ≡ told_of_workflow cause

-- what `latency` may answer of a workflow text
abbrev pub workflow_latency_says : Asked → Settings → Rule
workflow_latency_says asked settings text (Ok (end, out)) = IsWorkflowLatency asked settings text end out
workflow_latency_says asked settings text (Err fault) = IsFaultyWorkflow asked text fault
