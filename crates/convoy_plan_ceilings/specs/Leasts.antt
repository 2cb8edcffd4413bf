-- The least delays from site to site, as far as scenarios of placements have shown them.
use Rattle.std.specs.Prelude.{◌≡◌, ◌≢◌, ℕ, ◌+◌, ◌*◌, ◌<◌, nat_lt, ◌&&◌, if◌then◌else◌, List, length, slice_index_or, Option, Some, None, Ok}
use Rattle.convoy_scenario.specs.Scenario.{Scenario, range_between}
use Rattle.convoy_plans.specs.declared.fault.TheConstants.{MOST_SITES}
use Rattle.convoy_plans.specs.declared.plan.Origin.{Origin}
use Rattle.convoy_plans.specs.declared.plan.Origin.TheVariants.{Group}
use Rattle.convoy_plans.specs.Placements.{scenario_at, site_at}
use Rattle.convoy_plans.specs.PlanLaws.{sender_for, site_of}
use Rattle.convoy_plans.specs.Plans.{IsOrigin, Plan}

-- what goes from the one site to the other takes so long at least, whoever sends it, to whichever group, and wherever the others are
abbrev pub IsLeastBetween : Plan → ℕ → ℕ → ℕ → Type 0
IsLeastBetween plan a b least =
    (placement : List ℕ) (scenario : Scenario) (from : Origin) (g : ℕ)
    → scenario_at plan placement ≡ Ok scenario → IsOrigin plan from → g < length plan.written.groups → from ≢ Group g
    → site_of placement from ≡ a → site_at placement g ≡ b
    → (range_between scenario (sender_for plan from) g).0 ≡ least

-- the least delay from the one site to the other in such a list, if it is known: the sites stand in it one after the other, as many as a plan may have
abbrev pub least_at : List (Option ℕ) → ℕ → ℕ → Option ℕ
least_at leasts a b = if nat_lt a MOST_SITES && nat_lt b MOST_SITES then slice_index_or leasts (a * MOST_SITES + b) None else None

-- what is known is so
abbrev pub AreLeasts : Plan → List (Option ℕ) → Type 0
AreLeasts plan leasts = (a b least : ℕ) → least_at leasts a b ≡ Some least → IsLeastBetween plan a b least
