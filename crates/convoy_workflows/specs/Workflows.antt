-- Workflows: scenarios in which messages follow others.
use Rattle.std.specs.Prelude.{ℕ, ◌+◌, ◌*◌, ◌<◌, ◌≤◌, List, length, All, IsTrue}
use Rattle.convoy_scenario.specs.Scenario.{Scenario, message_at}
use Rattle.convoy_scenario.specs.WellFormed.{IsScenario}
use Rattle.convoy_causes.specs.declared.cause.Cause.{Cause}
use Rattle.convoy_causes.specs.Causes.{AreCauses}
use Rattle.convoy_causes.specs.CauseWindows.{has_room_from}
use Rattle.convoy_workflows.specs.Windows.{span}

-- what a workflow text says: a scenario, what its messages follow, and the number of the message from whose issue the time counts
pub record WorkflowView : Type 0 where
  pub scenario : Scenario
  pub causes : List Cause
  pub origin : ℕ

-- a message that follows another may be issued as soon, and as late, as it may follow that
pub record IsInWindow (scenario : Scenario) (cause : Cause) : Type 0 where
  pub soon : (message_at scenario cause.effect).at ≤ (message_at scenario cause.message).at + cause.least
  pub late : (message_at scenario cause.message).at + (message_at scenario cause.message).longest_wait + span cause.event * scenario.delay + cause.most
      ≤ (message_at scenario cause.effect).at + (message_at scenario cause.effect).longest_wait

-- its messages follow such as stand before them, in windows that leave no run out, and there is room to know the issue from which the time counts
pub record IsWorkflow (workflow : WorkflowView) : Type 0 where
  pub scenario : IsScenario workflow.scenario
  pub causes : AreCauses workflow.scenario workflow.causes
  pub in_order : All (λ cause. cause.message < cause.effect) workflow.causes
  pub in_windows : All (IsInWindow workflow.scenario) workflow.causes
  pub known : workflow.origin < length workflow.scenario.multicasts
  pub room : IsTrue (has_room_from workflow.scenario workflow.origin)
