-- How a search over placements stands: the best choice so far, and which placements are passed.
use Rattle.std.specs.Prelude.{ℕ, ⊤, if◌then◌else◌, List, Vec, Option, Some, None, is_none}
use Rattle.std.specs.Global.{Global}
use Rattle.std.specs.List.{count_by}
use Rattle.convoy_scenario.specs.Scenario.{Scenario}
use Rattle.convoy_plans.specs.Placements.{Completes, IsPlacement}
use Rattle.convoy_plans.specs.Plans.{Plan}
use Rattle.convoy_branch.specs.Options.{Settings}
use Rattle.convoy_best_order.specs.declared.best.Best.{Best}
use Rattle.convoy_best_order.specs.declared.target.Target.{Target}
use Rattle.convoy_best_order.specs.declared.wanted.Wanted.{Wanted}
use Rattle.convoy_best_order.specs.Best.{IsBest}
use Rattle.convoy_best_order.specs.Excesses.{IsLess, lesser}
use Rattle.convoy_best_plan.specs.declared.planned.Planned.{Planned}
use Rattle.convoy_best_plan.specs.BestPlans.{HasNoScenario, IsChoice, IsExact, IsExceeded, IsNew, IsNotBelow, reach_of}
use Rattle.convoy_best_plan.specs.Floors.{IsNoHigher, excess_at, is_lower, lower}
use Rattle.convoy_best_plan.specs.Totals.{total_of}

-- THE CHOICE SO FAR
-- It is a choice at a placement that is not told already, found with some settings. Its floor is no higher than what it keeps; and it is no lower, unless for some placement, order and target a search with these settings may stay open.
pub record IsFound (settings : Settings) (wanted : Wanted) (plan : Plan) (told : List Planned) (planned : Planned) : Type 0 where
  pub used : Settings
  pub choice : IsChoice used wanted plan planned
  pub new : IsNew told planned.placement.items
  pub floor : IsNoHigher planned.floor (reach_of planned)
  pub exact : IsExact settings wanted plan told planned

-- the best choice so far, if there is one, is one
abbrev pub IsStanding : Settings → Wanted → Plan → List Planned → Option Planned → Type 0
IsStanding settings wanted plan told None = ⊤
IsStanding settings wanted plan told (Some planned) = IsFound settings wanted plan told planned

-- a choice that there was is no lower than the one that there is
abbrev pub HasFallen : Option Planned → Option Planned → Type 0
HasFallen None next = ⊤
HasFallen (Some planned) None = ⊥
HasFallen (Some planned) (Some next) = IsNoHigher next.floor planned.floor

-- the placement is passed: it is not below the floor, or where there is no choice yet it has no scenario
abbrev pub IsPassed : Wanted → Plan → Option Planned → List ℕ → Type 0
IsPassed wanted plan None placement = HasNoScenario plan placement
IsPassed wanted plan (Some planned) placement = IsNotBelow wanted plan planned.floor placement

-- all placements that have these sites are passed, but for those that are told already
abbrev pub ArePassed : Wanted → Plan → List Planned → Option Planned → List (Option ℕ) → Type 0
ArePassed wanted plan told chosen sites =
    (placement : List ℕ) → IsPlacement plan placement → IsNew told placement → Completes placement sites → IsPassed wanted plan chosen placement

-- how many groups have no site yet
abbrev pub left_of : List (Option ℕ) → ℕ
left_of sites = count_by is_none sites

-- the better of a choice that there may be and one more, which is the one that keeps the lower reach; its floor is the lower of both
abbrev pub better : Option Planned → Planned → Planned
better None found = found
better (Some planned) found =
    if is_lower (reach_of found) (reach_of planned)
    then record found { floor = lower planned.floor found.floor }
    else record planned { floor = lower planned.floor found.floor }

-- ONE PLACEMENT
-- some search with some settings found that this is the best order for these targets
abbrev pub IsBestBySome : Scenario → List Target → Best → Type 0
IsBestBySome scenario targets best = (settings : Settings) × IsBest settings None scenario targets best

-- where it is open whether some order is better, the search was one with these settings
abbrev pub IsOpenByThese : Settings → Scenario → List Target → Best → Type 0
IsOpenByThese settings scenario targets best = IsLess best.least best.most → IsBest settings None scenario targets best

-- The choice of a placement with its scenario, and with the best order there for these targets. Its floor is the least that is told of that order, or the most where that is less.
abbrev pub choice_of : Vec ℕ Global → Scenario → Vec Target Global → Best → Planned
choice_of placement scenario targets best = record {
  placement = placement;
  scenario = scenario;
  targets = targets;
  best = best;
  total = total_of scenario;
  floor = record { least = lesser best.least best.most; ties = total_of scenario };
}

-- no order of the groups is better than that choice, if there is one
abbrev pub IsOutdone : Option Planned → Scenario → List Target → Type 0
IsOutdone None scenario targets = ⊥
IsOutdone (Some planned) scenario targets = IsExceeded scenario targets (excess_at (reach_of planned) (total_of scenario))
