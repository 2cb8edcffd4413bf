-- What is known once the greatest time of a workflow was sought.
use Rattle.std.specs.Prelude.{◌≡◌, ℕ, nat_lt, if◌then◌else◌, Option, Some, None}
use Rattle.convoy_packets.specs.Assignment.{Schedule}
use Rattle.convoy_causes.specs.Causes.{IsCaused, time_from}
use Rattle.convoy_workflows.specs.Workflows.{WorkflowView}
use Rattle.convoy_workflow_answers.specs.declared.found.Found.{Found}
use Rattle.convoy_workflow_answers.specs.declared.found.Found.TheVariants.{Greatest, Between, AtMost}
use Rattle.convoy_workflow_answers.specs.declared.seeking.Sought.{Sought}
use Rattle.convoy_workflow_answers.specs.WorkflowLatencies.{IsFound}

-- what is found by a run that takes so long, where none takes longer than `most`
abbrev pub found_between : ℕ → ℕ → Found
found_between least most = if nat_lt least most then Between least most else Greatest least

-- a run of the workflow in which messages follow their causes, which takes so long
pub record IsRunOfTime (workflow : WorkflowView) (time : ℕ) (schedule : Schedule) : Type 0 where
  pub caused : IsCaused workflow.scenario workflow.causes schedule
  pub takes : time_from workflow.scenario workflow.origin schedule ≡ time

-- the schedule that is given beside what was found is that of a run that takes as long as the greatest time is at least; none is given where no run was found
abbrev pub IsRunGiven : WorkflowView → Found → Option Schedule → Type 0
IsRunGiven workflow (Greatest time) (Some schedule) = IsRunOfTime workflow time schedule
IsRunGiven workflow (Between least most) (Some schedule) = IsRunOfTime workflow least schedule
IsRunGiven workflow (AtMost most) None = Unit {0}
IsRunGiven workflow found schedule = ⊥

-- what was found is so, and the run is one
pub record IsSought (workflow : WorkflowView) (sought : Sought) : Type 0 where
  pub found : IsFound workflow sought.found
  pub run : IsRunGiven workflow sought.found sought.schedule
