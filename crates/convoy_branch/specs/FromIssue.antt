-- What a search asks of a region in which the target is issued at one tick: bounds and leads count from that.
use Rattle.std.specs.Prelude.{◌≡◌, ℕ, Option, IfSome}
use Rattle.convoy_scenario.specs.Scenario.{Scenario}
use Rattle.convoy_certificate.specs.declared.node.Node.{Node}
use Rattle.convoy_intervals.specs.Bounds.{plain_bound}
use Rattle.convoy_intervals.specs.Boxes.{Box}
use Rattle.convoy_stamps.specs.StampBounds.{stamp_bound}
use Rattle.convoy_regions.specs.Regions.{Region}
use Rattle.convoy_leads.specs.Openings.{IsOpening}
use Rattle.convoy_narrowing.specs.Narrowing.{closes_region, narrowed}
use Rattle.convoy_branch.specs.declared.asked.Asked.{Asked}
use Rattle.convoy_branch.specs.declared.asked.LeftOpen.{LeftOpen}
use Rattle.convoy_branch.specs.declared.bounds.Bounds.{Bounds}
use Rattle.convoy_branch.specs.SearchBounds.{bound_in, leaf_by}
use Rattle.convoy_branch.specs.Uppers.{IsRaisedBy}

-- the bound of the box in a search that asks for stamp bounds
abbrev pub least_from_issue : Scenario → Box → ℕ
least_from_issue scenario box = bound_in scenario.time (stamp_bound scenario box) (plain_bound scenario box)

-- the leaf with which a search closes the region for a latency
abbrev pub leaf_from_issue : Bounds → Scenario → Region → ℕ → Option Node
leaf_from_issue bounds scenario region latency =
    leaf_by bounds (plain_bound scenario region.ranges) (least_from_issue scenario region.ranges) (closes_region scenario region latency) latency

-- the test is one of the region's windows, and what keeps it open is of the scenario
pub record IsLeftFromIssue (scenario : Scenario) (region : Region) (left : LeftOpen) : Type 0 where
  pub test : left.test ≡ record { scenario = scenario; windows = narrowed scenario region }
  pub opening : IfSome left.opening (IsOpening scenario)

-- the leaf is the one with which the search closes the region, and what leads leave open is of the region
pub record IsAskedFromIssue (bounds : Bounds) (scenario : Scenario) (region : Region) (latency : ℕ) (asked : Asked) : Type 0 where
  pub leaf : asked.leaf ≡ leaf_from_issue bounds scenario region latency
  pub left : IfSome asked.left (λ left. IsLeftFromIssue scenario region left.value)

-- what an upper bound is raised to where the region is left
abbrev pub IsRaisedFromIssue : Bounds → Scenario → Region → ℕ → ℕ → Type 0
IsRaisedFromIssue bounds scenario region upper raised =
    IsRaisedBy bounds (plain_bound scenario region.ranges) (least_from_issue scenario region.ranges) (λ latency. closes_region scenario region latency) upper raised
