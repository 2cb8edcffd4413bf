use Rattle.std.proofs.Common.{subst}
use Rattle.convoy_draft.specs.declared.fault.ScenarioFault.TheVariants.{Memory}
use Rattle.convoy_draft.specs.Draft.{Draft}
use Rattle.convoy_scenario.specs.Memory.{IsUnlessMemory}
use Rattle.convoy_scenario.specs.Numbering.{scenario_of_draft}
use Rattle.convoy_scenario.proofs.scenario.Scenario.new.Goals as goal

pub returns-clause-value : goal.returns-clause-value
returns-clause-value c =
    subst (λ (draft : Draft). IsUnlessMemory Memory (scenario_of_draft draft) c.from_draft.result) c.in_ok-draft.ensures c.from_draft.ensures
