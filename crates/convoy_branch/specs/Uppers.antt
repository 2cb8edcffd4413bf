-- The upper bound of all latencies that a search tells where regions are left.
use Rattle.std.specs.Prelude.{◌≡◌, ℕ, ◌≤◌, nat_le, max, Bool, ◌||◌, IsTrue, List, ◌∷◌, map}
use Rattle.std.specs.List.{All}
use Rattle.convoy_scenario.specs.Scenario.{Scenario}
use Rattle.convoy_sim.specs.Times.{greatest}
use Rattle.convoy_regions.specs.Regions.{Region}
use Rattle.convoy_origin.specs.FromOrigin.{closes_from_origin, plain_from_origin}
use Rattle.convoy_branch.specs.declared.bounds.Bounds.{Bounds}
use Rattle.convoy_branch.specs.declared.bounds.Bounds.TheVariants.{Plain, Stamp, Lead}
use Rattle.convoy_branch.specs.SearchBounds.{closes_for, least_bound}

-- the plain bound of a region's ranges, and that of a search that asks for stamp bounds
abbrev pub plain_over : Scenario → Region → ℕ
plain_over scenario region = plain_from_origin scenario region.ranges

abbrev pub least_over : Scenario → Region → ℕ
least_over scenario region = least_bound scenario region.ranges

-- a search by leads closes the region for some latency that is no greater
pub record IsClosedWithin (scenario : Scenario) (most : ℕ) (region : Region) : Type 0 where
  pub latency : ℕ
  pub few : latency ≤ most
  pub closes : IsTrue (closes_for Lead scenario region latency)

-- the upper bound is at least the best latency, and each region that is left is closed within it; it is no greater than the greatest of the best latency and of the bounds
pub record IsUpperByLeads (scenario : Scenario) (best : ℕ) (regions : List Region) (upper : ℕ) : Type 0 where
  pub above : best ≤ upper
  pub closed : All (IsClosedWithin scenario upper) regions
  pub within : upper ≤ greatest (best ∷ map (least_over scenario) regions)

-- the upper bound of a search that has that best latency, where those regions are left: the greatest of it and of their bounds, or less by leads
abbrev pub IsUpperOf : Bounds → Scenario → ℕ → List Region → ℕ → Type 0
IsUpperOf Plain scenario best regions upper = upper ≡ greatest (best ∷ map (plain_over scenario) regions)
IsUpperOf Stamp scenario best regions upper = upper ≡ greatest (best ∷ map (least_over scenario) regions)
IsUpperOf Lead scenario best regions upper = IsUpperByLeads scenario best regions upper

-- a search by leads closes a region for what an upper bound is raised to, which is no greater than by the least bound of its ranges
pub record IsRaisedByLeads (least : ℕ) (leads : ℕ → Bool) (upper raised : ℕ) : Type 0 where
  pub above : upper ≤ raised
  pub closes : IsTrue (nat_le least raised || leads raised)
  pub within : raised ≤ max upper least

-- what an upper bound is raised to where a region is left too: by its plain bound, by the least bound that a search asks for, or by the latencies for which leads close it
abbrev pub IsRaisedBy : Bounds → ℕ → ℕ → (ℕ → Bool) → ℕ → ℕ → Type 0
IsRaisedBy Plain plain least leads upper raised = raised ≡ max upper plain
IsRaisedBy Stamp plain least leads upper raised = raised ≡ max upper least
IsRaisedBy Lead plain least leads upper raised = IsRaisedByLeads least leads upper raised

-- what an upper bound is raised to where that region is left too
abbrev pub IsRaised : Bounds → Scenario → Region → ℕ → ℕ → Type 0
IsRaised bounds scenario region upper raised =
    IsRaisedBy bounds (plain_over scenario region) (least_over scenario region) (λ latency. closes_from_origin scenario region latency) upper raised
