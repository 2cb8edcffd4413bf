-- What is proved of the windows of regions. Each is the one clause of the function of its name in the crate's module `narrowing_laws`.
use Rattle.std.specs.Prelude.{◌≡◌, ℕ, ◌≤◌, IsTrue}
use Rattle.convoy_scenario.specs.Scenario.{Scenario}
use Rattle.convoy_scenario.specs.WellFormed.{IsScenario}
use Rattle.convoy_packets.specs.Assignment.{IsAssignment, Schedule}
use Rattle.convoy_sim.specs.Delivery.{latency_of}
use Rattle.convoy_intervals.specs.Boxes.{Box}
use Rattle.convoy_sure.specs.Windows.{EnclosesAll, tables_by}
use Rattle.convoy_leads.specs.Closing.{closes_by_leads}
use Rattle.convoy_regions.specs.Regions.{IsMember, IsRegion, Region, any_order}
use Rattle.convoy_narrowing.specs.Narrowing.{closes_region, narrowed}

-- the windows of a region enclose its members
abbrev pub NarrowedEncloseMembers : Type 0
NarrowedEncloseMembers =
    (scenario : Scenario) (region : Region) (schedule : Schedule)
    → IsScenario scenario
    → IsRegion scenario region
    → IsMember scenario region schedule
    → EnclosesAll scenario schedule (tables_by (narrowed scenario region))

-- no member of a region that leads close for a latency has a greater one
abbrev pub ClosedRegionHolds : Type 0
ClosedRegionHolds =
    (scenario : Scenario) (region : Region) (schedule : Schedule) (latency : ℕ)
    → IsScenario scenario
    → IsRegion scenario region
    → IsMember scenario region schedule
    → IsAssignment scenario schedule
    → IsTrue (closes_region scenario region latency)
    → latency_of scenario schedule ≤ latency

-- where no order is told, leads close the region for the same latencies as its box
abbrev pub ClosedAsBox : Type 0
ClosedAsBox = (scenario : Scenario) (ranges : Box) (latency : ℕ) → closes_region scenario (any_order ranges) latency ≡ closes_by_leads scenario ranges latency
