-- What `scenario` writes of a workflow: the scenario whose windows hold all its runs, with a late run in which messages follow their causes.
use Rattle.std.specs.Prelude.{◌≡◌, ◌⊎◌, ℕ, List, [], Ok, Err}
use Rattle.convoy_scenario.specs.WellFormed.{IsScenario}
use Rattle.convoy_packets.specs.Assignment.{Schedule}
use Rattle.convoy_causes.specs.Causes.{IsCaused}
use Rattle.convoy_toml.specs.declared.asked.Asked.{Asked}
use Rattle.convoy_toml_writer.specs.Text.{toml_text}
use Rattle.convoy_workflows.specs.Reading.{workflow_of_text}
use Rattle.convoy_workflows.specs.Workflows.{WorkflowView}
use Rattle.convoy_commands.specs.declared.done.Done.{Done}
use Rattle.convoy_commands.specs.declared.done.Done.TheVariants.{Fine, Open}
use Rattle.convoy_commands.specs.Replies.{Rule}
use Rattle.convoy_workflow_answers.specs.WorkflowLatencies.{IsFaultyWorkflow}

-- what is written is the workflow's scenario with a run of it in which messages follow their causes, and it ends well
pub record IsRunWritten (workflow : WorkflowView) (end : Done) (out : List ℕ) : Type 0 where
  pub schedule : Schedule
  pub caused : IsCaused workflow.scenario workflow.causes schedule
  pub written : out ≡ toml_text workflow.scenario schedule
  pub ends : end ≡ Fine

-- nothing is written, as no such run was found
pub record IsNoneFound (end : Done) (out : List ℕ) : Type 0 where
  pub written : out ≡ []
  pub ends : end ≡ Open

-- the one or the other
abbrev pub IsRunTold : WorkflowView → Done → List ℕ → Type 0
IsRunTold workflow end out = IsRunWritten workflow end out ⊎ IsNoneFound end out

-- What is written is so of the workflow that was read.
pub record IsLateRun (asked : Asked) (text : List ℕ) (end : Done) (out : List ℕ) : Type 0 where
  pub workflow : WorkflowView
  pub read : workflow_of_text asked text ≡ Ok workflow
  pub lawful : IsScenario workflow.scenario
  pub run : IsRunTold workflow end out

-- what may be answered for a workflow text
abbrev pub LateRunSays : Asked → Rule
LateRunSays asked text (Ok (end, out)) = IsLateRun asked text end out
LateRunSays asked text (Err fault) = IsFaultyWorkflow asked text fault
