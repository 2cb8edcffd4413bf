-- What is proved of regions. Each is the one clause of the function of its name in the crate's module `region_laws`.
use Rattle.std.specs.Prelude.{◌≡◌, ℕ, ◌*◌, ◌≤◌, ◌↔◌, List, length, true, IsTrue, IsFalse}
use Rattle.std.specs.List.{All}
use Rattle.convoy_scenario.specs.Scenario.{Scenario}
use Rattle.convoy_scenario.specs.WellFormed.{IsScenario}
use Rattle.convoy_packets.specs.Assignment.{Schedule, IsAssignment}
use Rattle.convoy_packets.specs.Order.{IsOrder}
use Rattle.convoy_packets.specs.declared.table_places.TheConstants.{PLACES}
use Rattle.convoy_sim.specs.Delivery.{latency_of}
use Rattle.convoy_intervals.specs.Boxes.{CanSplit, IsIn}
use Rattle.convoy_regions.specs.declared.stage.Stage.{Stage}
use Rattle.convoy_regions.specs.Stages.{AreKept, IsPrecedence, IsStage, Precedence, comes_before, known_before, stage_at, stages_of}
use Rattle.convoy_regions.specs.Regions.{Region, IsMember, IsRegion, can_order, first_half, is_decided, lower_half, root_region, run_of, second_half, upper_half}

-- the members of the root, with an order of the scenario's ties, are the assignments
abbrev pub RootHoldsAll : Type 0
RootHoldsAll =
    (scenario : Scenario) (schedule : Schedule)
    → IsAssignment scenario schedule ↔ IsMember scenario (root_region scenario) schedule × IsOrder scenario schedule.order

-- the halves of a region, by a delay or by an order, are regions
abbrev pub HalvesAreRegions : Type 0
HalvesAreRegions =
    (scenario : Scenario) (region : Region)
    → IsRegion scenario region
    → ((packet at : ℕ) → CanSplit region.ranges packet at → IsRegion scenario (lower_half region packet at) × IsRegion scenario (upper_half region packet at))
    × ((first second : ℕ) → IsTrue (can_order scenario region first second) → IsRegion scenario (first_half scenario region first second) × IsRegion scenario (second_half scenario region first second))

-- the halves by an order have the members of the region, and each of them once: those in whose run the first stage comes before the second, and the others
abbrev pub OrdersPartition : Type 0
OrdersPartition =
    (scenario : Scenario) (region : Region) (first second : ℕ) (schedule : Schedule)
    → IsTrue (can_order scenario region first second)
    → IsMember scenario region schedule
    → (IsMember scenario (first_half scenario region first second) schedule ↔ IsTrue (comes_before scenario schedule (stage_at scenario first) (stage_at scenario second)))
    × (IsMember scenario (second_half scenario region first second) schedule ↔ IsFalse (comes_before scenario schedule (stage_at scenario first) (stage_at scenario second)))

-- what comes before what by precedences does so in each run in which they hold
abbrev pub KnownHolds : Type 0
KnownHolds =
    (scenario : Scenario) (schedule : Schedule) (before : List Precedence) (a b : Stage)
    → All (IsPrecedence scenario) before
    → AreKept scenario schedule before
    → IsStage scenario a
    → known_before before a b ≡ true
    → comes_before scenario schedule a b ≡ true

-- all members of a decided region have the latency of its run
abbrev pub DecidedHasOneLatency : Type 0
DecidedHasOneLatency =
    (scenario : Scenario) (region : Region) (schedule : Schedule)
    → IsScenario scenario
    → IsRegion scenario region
    → is_decided scenario region ≡ true
    → IsMember scenario region schedule
    → IsOrder scenario schedule.order
    → latency_of scenario schedule ≡ latency_of scenario (run_of scenario region)

-- the run of a region has its delays in their ranges, and an order of the scenario's ties
abbrev pub RunIsAssignment : Type 0
RunIsAssignment =
    (scenario : Scenario) (region : Region)
    → IsRegion scenario region
    → IsIn region.ranges (run_of scenario region) × IsAssignment scenario (run_of scenario region)

-- a scenario has few stages: two for each place at most, so that the number of one has eight bits
abbrev pub StagesAreFew : Type 0
StagesAreFew = (scenario : Scenario) → length (stages_of scenario) ≤ 2 * PLACES
