-- The best choice of a plan: a placement of its groups at its sites with an order of the groups, and what no choice is below; and the best choices at so many placements, one after the other.
use Rattle.std.specs.Prelude.{◌≡◌, ◌≢◌, ◌⊎◌, ℕ, ◌<◌, ◌≤◌, ⊤, List, [], ◌∷◌, ◌++◌, length, Option, Some, None, Ok, All}
use Rattle.convoy_scenario.specs.Scenario.{Scenario}
use Rattle.convoy_plans.specs.Placements.{IsPlacement, scenario_at}
use Rattle.convoy_plans.specs.Plans.{Plan}
use Rattle.convoy_branch.specs.Options.{Settings}
use Rattle.convoy_best_order.specs.declared.excess.Excess.{Excess}
use Rattle.convoy_best_order.specs.declared.target.Target.{Target}
use Rattle.convoy_best_order.specs.declared.wanted.Wanted.{Wanted}
use Rattle.convoy_best_order.specs.Best.{IsBest}
use Rattle.convoy_best_order.specs.OrderLaws.{IsExceededIn}
use Rattle.convoy_best_order.specs.Orders.{IsOrder}
use Rattle.convoy_best_order.specs.Spreads.{MayStayOpen}
use Rattle.convoy_best_order.specs.Targets.{MayBeTarget, counted, targets_of}
use Rattle.convoy_best_plan.specs.declared.floor.Floor.{Floor}
use Rattle.convoy_best_plan.specs.declared.planned.Planned.{Planned}
use Rattle.convoy_best_plan.specs.Floors.{IsNoHigher, excess_at}
use Rattle.convoy_best_plan.specs.Totals.{total_of}

-- THE FLOOR
-- in each order of the groups some schedule of some of these targets exceeds its limit by so much, or by more
abbrev pub IsExceeded : Scenario → List Target → Excess → Type 0
IsExceeded scenario targets least = (order : List ℕ) → IsOrder scenario order → IsExceededIn None scenario targets order least

-- the targets of a scenario of the plan that count: where one of them has a deadline those that have one
abbrev pub targets_by : Wanted → Plan → Scenario → List Target
targets_by wanted plan scenario = counted (targets_of wanted plan.deadlines scenario)

-- where the placement has a scenario, no order is below the floor there
abbrev pub IsNotBelow : Wanted → Plan → Floor → List ℕ → Type 0
IsNotBelow wanted plan floor placement =
    (scenario : Scenario) → scenario_at plan placement ≡ Ok scenario
    → IsExceeded scenario (targets_by wanted plan scenario) (excess_at floor (total_of scenario))

-- no scenario is there for the placement
abbrev pub HasNoScenario : Plan → List ℕ → Type 0
HasNoScenario plan placement = (scenario : Scenario) → scenario_at plan placement ≡ Ok scenario → ⊥

-- THE CHOICE
-- The placement is one of the plan and has that scenario, with the best order of its groups for the targets that are wanted there.
pub record IsChoice (settings : Settings) (wanted : Wanted) (plan : Plan) (planned : Planned) : Type 0 where
  pub placement : IsPlacement plan planned.placement.items
  pub made : scenario_at plan planned.placement.items ≡ Ok planned.scenario
  pub targets : planned.targets.items ≡ targets_by wanted plan planned.scenario
  pub lawful : All (MayBeTarget planned.scenario) planned.targets.items
  pub best : IsBest settings None planned.scenario planned.targets.items planned.best
  pub total : planned.total ≡ total_of planned.scenario

-- what it keeps: the greatest excess in its order at most, and its total
abbrev pub reach_of : Planned → Floor
reach_of planned = record { least = planned.best.most; ties = planned.total }

-- WHAT IS TOLD ALREADY
-- none of the choices that are told already has the placement
abbrev pub IsNew : List Planned → List ℕ → Type 0
IsNew told placement = All (λ planned. planned.placement.items ≢ placement) told

-- For some placement of the plan that is not told already a search with these settings may stay open, for one of the targets that are wanted there with the groups in some order.
pub record IsOpenSomewhere (settings : Settings) (wanted : Wanted) (plan : Plan) (told : List Planned) : Type 0 where
  pub placement : List ℕ
  pub is : IsPlacement plan placement
  pub new : IsNew told placement
  pub scenario : Scenario
  pub made : scenario_at plan placement ≡ Ok scenario
  pub may_be : MayStayOpen settings None scenario (targets_by wanted plan scenario)

-- The floor of the choice is what it keeps, and no less, unless for some placement, order and target a search may stay open.
abbrev pub IsExact : Settings → Wanted → Plan → List Planned → Planned → Type 0
IsExact settings wanted plan told planned = IsNoHigher (reach_of planned) planned.floor ⊎ IsOpenSomewhere settings wanted plan told

-- THE BEST PLAN
-- It is a choice of the plan at a placement that is not told already, and no other such placement has an order that is below its floor: so says the law `NoChoiceIsBetter`. Where the floor is what the choice keeps no choice is better; it is, unless for some placement, order and target a search may stay open.
pub record IsBestPlan (settings : Settings) (wanted : Wanted) (plan : Plan) (told : List Planned) (planned : Planned) : Type 0 where
  pub choice : IsChoice settings wanted plan planned
  pub new : IsNew told planned.placement.items
  pub floor : IsNoHigher planned.floor (reach_of planned)
  pub exact : IsExact settings wanted plan told planned
  pub none_below : (placement : List ℕ) → IsPlacement plan placement → IsNew told placement → IsNotBelow wanted plan planned.floor placement

-- each placement that has a scenario is told already
abbrev pub AreAllTold : Plan → List Planned → Type 0
AreAllTold plan told = (placement : List ℕ) → IsPlacement plan placement → IsNew told placement → HasNoScenario plan placement

-- what may be answered: the best plan, or that no placement has a scenario but those that are told already
abbrev pub IsPlanned : Settings → Wanted → Plan → List Planned → Option Planned → Type 0
IsPlanned settings wanted plan told (Some planned) = IsBestPlan settings wanted plan told planned
IsPlanned settings wanted plan told None = AreAllTold plan told

-- THE BEST PLANS
-- after those that are told already each choice is the best at a placement that none before it has
abbrev pub AreInTurn : Settings → Wanted → Plan → List Planned → List Planned → Type 0
AreInTurn settings wanted plan told [] = ⊤
AreInTurn settings wanted plan told (planned ∷ others) =
    IsBestPlan settings wanted plan told planned × AreInTurn settings wanted plan (told ++ planned ∷ []) others

-- so many choices, the best first; or fewer, where no further placement has a scenario
pub record AreBestPlans (settings : Settings) (wanted : Wanted) (plan : Plan) (count : ℕ) (all : List Planned) : Type 0 where
  pub in_turn : AreInTurn settings wanted plan [] all
  pub few : length all ≤ count
  pub whole : length all < count → AreAllTold plan all
