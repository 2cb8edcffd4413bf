-- What is proved of the placement with the least ceilings. Each is the one clause of the function of its name in the crate's module `ceiling_choice_laws`.
use Rattle.std.specs.Prelude.{◌≡◌, ◌≢◌, ℕ, ◌<◌, ◌≤◌, List, length, Ok, Contains}
use Rattle.convoy_scenario.specs.Scenario.{Scenario, range_between}
use Rattle.convoy_ceiling.specs.Ceiling.{IsUpperInTraffic, ceiling_at}
use Rattle.convoy_plans.specs.declared.plan.Origin.{Origin}
use Rattle.convoy_plans.specs.declared.plan.Origin.TheVariants.{Group}
use Rattle.convoy_plans.specs.Placements.{IsPlacement, scenario_at, site_at}
use Rattle.convoy_plans.specs.PlanLaws.{sender_for, site_of}
use Rattle.convoy_plans.specs.Plans.{IsOrigin, IsPlan, Plan, most_between}
use Rattle.convoy_best_order.specs.declared.target.Target.{Target}
use Rattle.convoy_best_order.specs.declared.wanted.Wanted.{Wanted}
use Rattle.convoy_best_order.specs.Excesses.{IsAtMost}
use Rattle.convoy_best_plan.specs.BestPlans.{targets_by}
use Rattle.convoy_best_plan.specs.Floors.{excess_at}
use Rattle.convoy_best_plan.specs.Totals.{total_of}
use Rattle.convoy_plan_ceilings.specs.declared.ceiling_choice.CeilingChoice.{CeilingChoice}
use Rattle.convoy_plan_ceilings.specs.LeastCeilings.{IsLeastCeiling, excess_of, row_at}
use Rattle.convoy_plan_ceilings.specs.Leasts.{IsLeastBetween}

-- At each placement the ceiling of some target that counts exceeds its limit by as much as the greatest one of the choice, or by more; and by a tick more where the placement's total is less.
abbrev pub NoCeilingIsLess : Type 0
NoCeilingIsLess =
    (wanted : Wanted) (plan : Plan) (chosen : CeilingChoice) (placement : List ℕ) (scenario : Scenario)
    → IsLeastCeiling wanted plan chosen → IsPlacement plan placement → scenario_at plan placement ≡ Ok scenario
    → (target : Target) × Contains (targets_by wanted plan scenario) target × IsAtMost (excess_at chosen.reach (total_of scenario)) (excess_of (row_at scenario target))

-- In no traffic of the kinds of messages of the scenario that is told has a target a greater latency than the ceiling that is told for it, and none of them exceeds its limit by more than the choice says.
abbrev pub ChosenCeilingHolds : Type 0
ChosenCeilingHolds =
    (wanted : Wanted) (plan : Plan) (chosen : CeilingChoice) (target : Target)
    → IsLeastCeiling wanted plan chosen → Contains (targets_by wanted plan chosen.scenario) target
    → IsUpperInTraffic chosen.scenario target.message target.group (ceiling_at chosen.scenario target.message target.group)
    × IsAtMost (excess_of (row_at chosen.scenario target)) chosen.reach.least

-- Where a range is written from site to site, what goes there takes at least as long in the scenario of each placement.
abbrev pub LeastsAreOfSites : Type 0
LeastsAreOfSites =
    (plan : Plan) (placement : List ℕ) (scenario : Scenario) (from : Origin) (g : ℕ)
    → IsPlan plan → scenario_at plan placement ≡ Ok scenario → IsOrigin plan from → g < length plan.written.groups → from ≢ Group g
    → 1 ≤ most_between plan (site_of placement from) (site_at placement g)
    → IsLeastBetween plan (site_of placement from) (site_at placement g) (range_between scenario (sender_for plan from) g).0
