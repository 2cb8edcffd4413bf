use Rattle.std.proofs.Common.{Bool, subst₂}
use Rattle.convoy_draft.specs.declared.fault.ScenarioFault.TheVariants.{Memory}
use Rattle.convoy_draft.specs.Draft.{Draft}
use Rattle.convoy_scenario.specs.Memory.{IsUnlessMemory}
use Rattle.convoy_workflow_words.specs.declared.fault.WorkflowFault.TheVariants.{Scenario}
use Rattle.convoy_workflows.specs.Reading.{scenario_with_ranges}
use Rattle.convoy_workflows.specs.Shape.{of_scenario}
use Rattle.convoy_workflows.proofs.read.scenario_in_windows.Goals as goal

pub returns : goal.returns
returns c =
    subst₂ (λ (has_least : Bool) (draft : Draft). IsUnlessMemory (Scenario Memory) (of_scenario (scenario_with_ranges has_least draft)) c.scenario_with_ranges.result)
    c.has_least.ensures c.in_ok-within.ensures c.scenario_with_ranges.ensures
