-- Bounds of a region, counted from the issue of the target whenever that is: those of the widened region, in which it is known.
use Rattle.std.specs.Prelude.{ℕ, Bool}
use Rattle.convoy_scenario.specs.Scenario.{Scenario}
use Rattle.convoy_intervals.specs.Boxes.{Box}
use Rattle.convoy_intervals.specs.Bounds.{plain_bound}
use Rattle.convoy_stamps.specs.StampBounds.{stamp_bound}
use Rattle.convoy_regions.specs.Regions.{Region}
use Rattle.convoy_narrowing.specs.Narrowing.{closes_region}
use Rattle.convoy_scenario.specs.Widened.{widened}
use Rattle.convoy_origin.specs.WidenedBoxes.{widened_box}
use Rattle.convoy_origin.specs.WidenedRegions.{widened_region}

-- the plain bound of a box
unfoldable pub plain_from_origin : Scenario → Box → ℕ
plain_from_origin scenario ranges = plain_bound (widened scenario) (widened_box scenario ranges)

-- its stamp bound
unfoldable pub stamp_from_origin : Scenario → Box → ℕ
stamp_from_origin scenario ranges = stamp_bound (widened scenario) (widened_box scenario ranges)

-- whether leads close a region for a latency
unfoldable pub closes_from_origin : Scenario → Region → ℕ → Bool
closes_from_origin scenario region latency = closes_region (widened scenario) (widened_region scenario region) latency
