use Rattle.std.proofs.Common.{subst}
use Rattle.convoy_draft.specs.declared.fault.ScenarioFault.TheVariants.{Memory}
use Rattle.convoy_draft.specs.Draft.{Draft}
use Rattle.convoy_scenario.specs.Memory.{IsUnlessMemory}
use Rattle.convoy_scenario.specs.Numbering.{scenario_of_draft}
use Rattle.convoy_budget.proofs.drafting.with_range.Goals as goal

pub returns : goal.returns
returns c = subst (λ (d : Draft). IsUnlessMemory Memory (scenario_of_draft d) c.from_draft.result) c.in_ok-ranged_draft.ensures c.from_draft.ensures
