-- What is proved of the best plan. Each is the one clause of the function of its name in the crate's module `choice_laws`.
use Rattle.std.specs.Prelude.{◌≡◌, ℕ, List, Ok, Contains, None}
use Rattle.convoy_scenario.specs.Scenario.{Scenario}
use Rattle.convoy_scenario.specs.WellFormed.{IsScenario}
use Rattle.convoy_plans.specs.Placements.{IsPlacement, scenario_at}
use Rattle.convoy_plans.specs.Plans.{Plan}
use Rattle.convoy_branch.specs.Options.{Settings}
use Rattle.convoy_best_order.specs.declared.excess.Excess.{Excess}
use Rattle.convoy_best_order.specs.declared.target.Target.{Target}
use Rattle.convoy_best_order.specs.declared.wanted.Wanted.{Wanted}
use Rattle.convoy_best_order.specs.OrderLaws.{IsExceededIn, IsKeptIn}
use Rattle.convoy_best_order.specs.Orders.{IsOrder}
use Rattle.convoy_best_order.specs.Targets.{MayBeTarget}
use Rattle.convoy_best_plan.specs.declared.planned.Planned.{Planned}
use Rattle.convoy_best_plan.specs.BestPlans.{IsBestPlan, IsExceeded, IsNew, targets_by}
use Rattle.convoy_best_plan.specs.Floors.{excess_at}
use Rattle.convoy_best_plan.specs.Totals.{total_of}
use Rattle.convoy_best_plan.specs.Witnesses.{IsLastListed, IsPast}

-- No choice has a lesser greatest excess than the floor says for its total: whatever the placement, but for those that are told already, and whatever the order of its groups, some schedule of some target exceeds its limit by so much, or by more.
abbrev pub NoChoiceIsBetter : Type 0
NoChoiceIsBetter =
    (settings : Settings) (wanted : Wanted) (plan : Plan) (told : List Planned) (planned : Planned) (placement : List ℕ) (scenario : Scenario) (order : List ℕ)
    → IsBestPlan settings wanted plan told planned → IsPlacement plan placement → IsNew told placement → scenario_at plan placement ≡ Ok scenario → IsOrder scenario order
    → IsExceededIn None scenario (targets_by wanted plan scenario) order (excess_at planned.floor (total_of scenario))

-- The choice that is told has at most the most.
abbrev pub ChoiceKeeps : Type 0
ChoiceKeeps =
    (settings : Settings) (wanted : Wanted) (plan : Plan) (told : List Planned) (planned : Planned) (target : Target)
    → IsBestPlan settings wanted plan told planned → Contains (targets_by wanted plan planned.scenario) target
    → IsKeptIn None planned.scenario planned.best.order.items planned.best.most target

-- A target that is so late with its group listed last is so late in each order of the groups, or some target is.
abbrev pub LateLastIsLate : Type 0
LateLastIsLate =
    (scenario : Scenario) (targets : List Target) (target : Target) (instance : Scenario) (least : Excess)
    → IsScenario scenario → MayBeTarget scenario target → Contains targets target → IsLastListed scenario target instance → IsPast instance target least
    → IsExceeded scenario targets least
