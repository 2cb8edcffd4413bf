-- Regions of the widened scenario: whatever closes the widened region for a latency closes the region for it.
use Rattle.std.specs.Prelude.{◌≡◌, ℕ, ◌≤◌, Some, IsTrue}
use Rattle.std.specs.List.{slice_get}
use Rattle.convoy_scenario.specs.Scenario.{Scenario}
use Rattle.convoy_scenario.specs.WellFormed.{IsScenario}
use Rattle.convoy_packets.specs.declared.packet.Packet.{Packet}
use Rattle.convoy_packets.specs.Packets.{packets_of, place_of}
use Rattle.convoy_packets.specs.Assignment.{IsAssignment, Schedule}
use Rattle.convoy_sim.specs.Delivery.{latency_of}
use Rattle.convoy_intervals.specs.Bounds.{plain_bound}
use Rattle.convoy_stamps.specs.StampBounds.{stamp_bound}
use Rattle.convoy_regions.specs.Regions.{IsMember, IsRegion, Region, root_region}
use Rattle.convoy_narrowing.specs.Narrowing.{closes_region}
use Rattle.convoy_scenario.specs.Widened.{target_wait, widened}
use Rattle.convoy_origin.specs.Widened.{HasTarget, widened_schedule}
use Rattle.convoy_origin.specs.WidenedBoxes.{target_range, widened_box}

-- the region of the widened scenario that has the members of a region, with their issues moved: its box is widened, and what comes before what is the same
abbrev pub widened_region : Scenario → Region → Region
widened_region scenario region = record region { ranges = widened_box scenario region.ranges }

-- no assignment in the region has a greater latency
abbrev pub IsClosedFor : Scenario → Region → ℕ → Type 0
IsClosedFor scenario region latency =
    (schedule : Schedule) → IsAssignment scenario schedule → IsMember scenario region schedule → latency_of scenario schedule ≤ latency

-- The widened region is a region of the widened scenario, ..
abbrev pub RegionsWiden : Type 0
RegionsWiden =
    (scenario : Scenario) (region : Region) → IsRegion scenario region → IsRegion (widened scenario) (widened_region scenario region)

-- .. and holds the members of the region, with their issues moved.
abbrev pub MembersWiden : Type 0
MembersWiden =
    (scenario : Scenario) (region : Region) (schedule : Schedule)
    → IsRegion scenario region
    → IsAssignment scenario schedule
    → IsMember scenario region schedule
    → IsMember (widened scenario) (widened_region scenario region) (widened_schedule scenario schedule)

-- The root of a scenario widens to the root of the widened scenario.
abbrev pub RootWidens : Type 0
RootWidens = (scenario : Scenario) → widened_region scenario (root_region scenario) ≡ root_region (widened scenario)

-- Where the target does not wait, each region is its own widened region.
abbrev pub WidenedRegionIsItself : Type 0
WidenedRegionIsItself =
    (scenario : Scenario) (region : Region)
    → target_wait scenario ≡ 0
    → IsScenario scenario
    → IsRegion scenario region
    → widened_region scenario region ≡ region

-- Whatever closes the widened region for a latency closes the region for it.
abbrev pub ClosedByWidened : Type 0
ClosedByWidened =
    (scenario : Scenario) (region : Region) (latency : ℕ)
    → HasTarget scenario
    → IsRegion scenario region
    → IsClosedFor (widened scenario) (widened_region scenario region) latency
    → IsClosedFor scenario region latency

-- So does the plain bound of its ranges, ..
abbrev pub PlainBoundOfWidened : Type 0
PlainBoundOfWidened =
    (scenario : Scenario) (region : Region)
    → IsScenario scenario
    → IsRegion scenario region
    → IsClosedFor scenario region (plain_bound (widened scenario) (widened_box scenario region.ranges))

-- .. their stamp bound, ..
abbrev pub StampBoundOfWidened : Type 0
StampBoundOfWidened =
    (scenario : Scenario) (region : Region)
    → IsScenario scenario
    → IsRegion scenario region
    → IsClosedFor scenario region (stamp_bound (widened scenario) (widened_box scenario region.ranges))

-- .. and leads that close it.
abbrev pub LeadsOfWidened : Type 0
LeadsOfWidened =
    (scenario : Scenario) (region : Region) (latency : ℕ)
    → IsScenario scenario
    → IsRegion scenario region
    → IsTrue (closes_region (widened scenario) (widened_region scenario region) latency)
    → IsClosedFor scenario region latency

-- no packet stands twice in the list of the scenario's packets
abbrev pub StandOnce : Scenario → Type 0
StandOnce scenario =
    (i : ℕ) (packet : Packet) → slice_get (packets_of scenario) i ≡ Some packet → place_of packet (packets_of scenario) ≡ Some i

-- Where the target's wait has one value in a region, the widened region holds nothing else: each of its members has the latency of a member of the region.
abbrev pub WidenedIsExact : Type 0
WidenedIsExact =
    (scenario : Scenario) (region : Region) (later : Schedule)
    → HasTarget scenario
    → StandOnce scenario
    → IsRegion scenario region
    → (target_range scenario region.ranges).0 ≡ (target_range scenario region.ranges).1
    → IsAssignment (widened scenario) later
    → IsMember (widened scenario) (widened_region scenario region) later
    → (schedule : Schedule) × IsAssignment scenario schedule × IsMember scenario region schedule
    × (latency_of (widened scenario) later ≡ latency_of scenario schedule)
