-- The placement of a plan's groups with the least ceilings: whatever traffic of its kinds of messages there is, no other one promises less.
use Rattle.std.specs.Prelude.{◌≡◌, ℕ, Bool, List, [], ◌∷◌, map, Option, Some, None, is_some, Ok, All}
use Rattle.std.specs.List.{list_any}
use Rattle.convoy_scenario.specs.Scenario.{Scenario}
use Rattle.convoy_ceiling.specs.Ceiling.{ceiling_at}
use Rattle.convoy_plans.specs.Placements.{IsPlacement, scenario_at}
use Rattle.convoy_plans.specs.Plans.{Plan}
use Rattle.convoy_best_order.specs.declared.excess.Excess.{Excess}
use Rattle.convoy_best_order.specs.declared.target.Target.{Target}
use Rattle.convoy_best_order.specs.declared.wanted.Wanted.{Wanted}
use Rattle.convoy_best_order.specs.Excesses.{greater}
use Rattle.convoy_best_order.specs.Targets.{MayBeTarget, limit_of}
use Rattle.convoy_best_plan.specs.declared.floor.Floor.{Floor}
use Rattle.convoy_best_plan.specs.BestPlans.{HasNoScenario, targets_by}
use Rattle.convoy_best_plan.specs.Floors.{IsNoHigher}
use Rattle.convoy_best_plan.specs.Totals.{total_of}
use Rattle.convoy_plan_ceilings.specs.declared.ceiling_choice.CeilingChoice.{CeilingChoice}
use Rattle.convoy_plan_ceilings.specs.declared.target_ceiling.TargetCeiling.{TargetCeiling}

-- CEILINGS OF A PLACEMENT
-- a target with its ceiling
abbrev pub row_at : Scenario → Target → TargetCeiling
row_at scenario target = record { target = target; ceiling = ceiling_at scenario target.message target.group }

-- those of the targets of a scenario of the plan that count
abbrev pub rows_at : Wanted → Plan → Scenario → List TargetCeiling
rows_at wanted plan scenario = map (row_at scenario) (targets_by wanted plan scenario)

-- by how much the ceiling exceeds what the latency of the target is limited to
abbrev pub excess_of : TargetCeiling → Excess
excess_of row = record { latency = row.ceiling; limit = limit_of row.target }

-- the greatest of one excess and those of some ceilings
abbrev pub worst_after : Excess → List TargetCeiling → Excess
worst_after worst [] = worst
worst_after worst (row ∷ rows) = worst_after (greater worst (excess_of row)) rows

-- the greatest of those of some ceilings; 0 where there are none
abbrev pub worst_of : List TargetCeiling → Excess
worst_of [] = record { latency = 0; limit = 0 }
worst_of (row ∷ rows) = worst_after (excess_of row) rows

-- one of the targets has a deadline
abbrev pub are_limited : List TargetCeiling → Bool
are_limited rows = list_any (λ row. is_some row.target.deadline) rows

-- what decides between placements: the greatest excess of a ceiling, and where that is the same the total of the scenario
abbrev pub reach_at : Wanted → Plan → Scenario → Floor
reach_at wanted plan scenario = record { least = worst_of (rows_at wanted plan scenario); ties = total_of scenario }

-- THE CHOICE
-- It is a placement of the plan with its scenario, and the ceilings there of the targets that count, each of which may be the scenario's target.
pub record IsCeilingChoice (wanted : Wanted) (plan : Plan) (chosen : CeilingChoice) : Type 0 where
  pub placement : IsPlacement plan chosen.placement.items
  pub made : scenario_at plan chosen.placement.items ≡ Ok chosen.scenario
  pub rows : chosen.rows.items ≡ rows_at wanted plan chosen.scenario
  pub lawful : All (λ row. MayBeTarget chosen.scenario row.target) chosen.rows.items
  pub reach : chosen.reach ≡ reach_at wanted plan chosen.scenario

-- where the placement has a scenario, its greatest excess is no less, and where it is the same its total is no less
abbrev pub IsNoBetter : Wanted → Plan → Floor → List ℕ → Type 0
IsNoBetter wanted plan reach placement =
    (scenario : Scenario) → scenario_at plan placement ≡ Ok scenario → IsNoHigher reach (reach_at wanted plan scenario)

-- It is a choice of the plan, and no placement is better.
pub record IsLeastCeiling (wanted : Wanted) (plan : Plan) (chosen : CeilingChoice) : Type 0 where
  pub choice : IsCeilingChoice wanted plan chosen
  pub none_better : (placement : List ℕ) → IsPlacement plan placement → IsNoBetter wanted plan chosen.reach placement

-- what may be answered: that choice, or that no placement has a scenario
abbrev pub IsCeilingChosen : Wanted → Plan → Option CeilingChoice → Type 0
IsCeilingChosen wanted plan (Some chosen) = IsLeastCeiling wanted plan chosen
IsCeilingChosen wanted plan None = (placement : List ℕ) → IsPlacement plan placement → HasNoScenario plan placement
