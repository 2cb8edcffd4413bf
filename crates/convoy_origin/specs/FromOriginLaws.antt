-- What is proved of bounds counted from the issue of the target. Each is the one clause of the function of its name in the crate's module `from_origin_laws`.
use Rattle.std.specs.Prelude.{◌≡◌, ℕ, ◌≤◌, IsTrue}
use Rattle.convoy_scenario.specs.Scenario.{Scenario}
use Rattle.convoy_scenario.specs.WellFormed.{IsScenario}
use Rattle.convoy_intervals.specs.Boxes.{Box}
use Rattle.convoy_intervals.specs.Bounds.{plain_bound}
use Rattle.convoy_stamps.specs.StampBounds.{stamp_bound}
use Rattle.convoy_regions.specs.Regions.{IsRegion, Region}
use Rattle.convoy_narrowing.specs.Narrowing.{closes_region}
use Rattle.convoy_origin.specs.FromOrigin.{closes_from_origin, plain_from_origin, stamp_from_origin}
use Rattle.convoy_scenario.specs.Widened.{target_wait}
use Rattle.convoy_origin.specs.WidenedRegions.{IsClosedFor}

-- No latency in a region is greater than the plain bound of its ranges, ..
abbrev pub PlainFromOriginHolds : Type 0
PlainFromOriginHolds =
    (scenario : Scenario) (region : Region) → IsScenario scenario → IsRegion scenario region → IsClosedFor scenario region (plain_from_origin scenario region.ranges)

-- .. or than their stamp bound, ..
abbrev pub StampFromOriginHolds : Type 0
StampFromOriginHolds =
    (scenario : Scenario) (region : Region) → IsScenario scenario → IsRegion scenario region → IsClosedFor scenario region (stamp_from_origin scenario region.ranges)

-- .. or than one for which leads close it.
abbrev pub LeadsFromOriginHold : Type 0
LeadsFromOriginHold =
    (scenario : Scenario) (region : Region) (latency : ℕ)
    → IsScenario scenario
    → IsRegion scenario region
    → IsTrue (closes_from_origin scenario region latency)
    → IsClosedFor scenario region latency

-- The stamp bound of a box is at most its plain bound.
abbrev pub StampAtMostPlainFromOrigin : Type 0
StampAtMostPlainFromOrigin = (scenario : Scenario) (ranges : Box) → stamp_from_origin scenario ranges ≤ plain_from_origin scenario ranges

-- where the target does not wait, the bounds are those from the one tick at which it is issued
pub record AreFromIssue (scenario : Scenario) (region : Region) : Type 0 where
  pub plain : plain_from_origin scenario region.ranges ≡ plain_bound scenario region.ranges
  pub stamp : stamp_from_origin scenario region.ranges ≡ stamp_bound scenario region.ranges
  pub leads : (latency : ℕ) → closes_from_origin scenario region latency ≡ closes_region scenario region latency

abbrev pub FromOriginIsFromIssue : Type 0
FromOriginIsFromIssue =
    (scenario : Scenario) (region : Region) → target_wait scenario ≡ 0 → IsScenario scenario → IsRegion scenario region → AreFromIssue scenario region
