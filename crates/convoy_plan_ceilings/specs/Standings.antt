-- How a search over placements stands: the best choice so far, which placements are passed, and what is known of delays.
use Rattle.std.specs.Prelude.{ℕ, ⊤, if◌then◌else◌, List, Option, Some, None}
use Rattle.convoy_plans.specs.Placements.{Completes, IsPlacement}
use Rattle.convoy_plans.specs.Plans.{Plan}
use Rattle.convoy_best_order.specs.declared.wanted.Wanted.{Wanted}
use Rattle.convoy_best_plan.specs.BestPlans.{HasNoScenario}
use Rattle.convoy_best_plan.specs.Floors.{IsNoHigher, is_lower}
use Rattle.convoy_plan_ceilings.specs.declared.ceiling_choice.CeilingChoice.{CeilingChoice}
use Rattle.convoy_plan_ceilings.specs.declared.standing.Standing.{Standing}
use Rattle.convoy_plan_ceilings.specs.LeastCeilings.{IsCeilingChoice, IsNoBetter}
use Rattle.convoy_plan_ceilings.specs.Leasts.{AreLeasts}

-- the best choice so far, if there is one, is one
abbrev pub IsChosen : Wanted → Plan → Option CeilingChoice → Type 0
IsChosen wanted plan None = ⊤
IsChosen wanted plan (Some chosen) = IsCeilingChoice wanted plan chosen

-- so it is, and what is known of the least delays is so
pub record IsStanding (wanted : Wanted) (plan : Plan) (standing : Standing) : Type 0 where
  pub chosen : IsChosen wanted plan standing.chosen
  pub leasts : AreLeasts plan standing.leasts.items

-- a choice that there was is no better than the one that there is
abbrev pub HasFallen : Option CeilingChoice → Option CeilingChoice → Type 0
HasFallen None next = ⊤
HasFallen (Some chosen) None = ⊥
HasFallen (Some chosen) (Some next) = IsNoHigher next.reach chosen.reach

-- the placement is passed: it is no better than the choice, or where there is none yet it has no scenario
abbrev pub IsPassed : Wanted → Plan → Option CeilingChoice → List ℕ → Type 0
IsPassed wanted plan None placement = HasNoScenario plan placement
IsPassed wanted plan (Some chosen) placement = IsNoBetter wanted plan chosen.reach placement

-- all placements that have these sites are passed
abbrev pub ArePassed : Wanted → Plan → Option CeilingChoice → List (Option ℕ) → Type 0
ArePassed wanted plan chosen sites =
    (placement : List ℕ) → IsPlacement plan placement → Completes placement sites → IsPassed wanted plan chosen placement

-- the better of a choice that there may be and one more
abbrev pub better : Option CeilingChoice → CeilingChoice → CeilingChoice
better None found = found
better (Some chosen) found = if is_lower found.reach chosen.reach then found else chosen
