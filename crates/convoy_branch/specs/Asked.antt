-- What a search knows of a region where it asked whether it is closed.
use Rattle.std.specs.Prelude.{◌≡◌, ℕ, IfSome}
use Rattle.convoy_scenario.specs.Scenario.{Scenario}
use Rattle.convoy_regions.specs.Regions.{Region}
use Rattle.convoy_scenario.specs.Widened.{widened}
use Rattle.convoy_origin.specs.WidenedRegions.{widened_region}
use Rattle.convoy_branch.specs.declared.asked.Asked.{Asked}
use Rattle.convoy_branch.specs.declared.asked.LeftOpen.{LeftOpen}
use Rattle.convoy_branch.specs.declared.bounds.Bounds.{Bounds}
use Rattle.convoy_branch.specs.FromIssue.{IsLeftFromIssue}
use Rattle.convoy_branch.specs.SearchBounds.{leaf_for}

-- what leads leave open of the region is left open of the widened region, in which the issue of the target is known
abbrev pub IsLeftOpen : Scenario → Region → LeftOpen → Type 0
IsLeftOpen scenario region left = IsLeftFromIssue (widened scenario) (widened_region scenario region) left

-- the leaf is that with which a search by the bounds closes the region for the latency, and what leads leave open is of the region
pub record IsAsked (bounds : Bounds) (scenario : Scenario) (region : Region) (latency : ℕ) (asked : Asked) : Type 0 where
  pub leaf : asked.leaf ≡ leaf_for bounds scenario region latency
  pub left : IfSome asked.left (λ left. IsLeftOpen scenario region left.value)
