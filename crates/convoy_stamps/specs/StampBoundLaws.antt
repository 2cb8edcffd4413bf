-- What is proved of reaches and of bounds that look at stamps. Each is the one clause of the function of its name in the crate's module `stamp_bound_laws`.
use Rattle.std.specs.Prelude.{ℕ, ◌+◌, ◌≤◌, Bool, List, length, IsTrue, IsFalse}
use Rattle.std.specs.List.{Contains}
use Rattle.convoy_scenario.specs.Scenario.{Scenario, GoesTo}
use Rattle.convoy_scenario.specs.WellFormed.{IsScenario}
use Rattle.convoy_packets.specs.Assignment.{Schedule}
use Rattle.convoy_sim.specs.Stamps.{is_less, local_stamp, final_stamp}
use Rattle.convoy_sim.specs.Delivery.{latency_of}
use Rattle.convoy_intervals.specs.Boxes.{Box, IsIn}
use Rattle.convoy_intervals.specs.Bounds.{Tables, Encloses, plain_bound}
use Rattle.convoy_stamps.specs.declared.pair.Pair.{Pair}
use Rattle.convoy_stamps.specs.Reach.{pair_of, IsPair, leads_to, reach_of}
use Rattle.convoy_stamps.specs.StampBounds.{bound_by, sure_before, stamp_bound_over, stamp_bound}

-- pairs that hold, with each pair, those to which it leads in the reach of message m
abbrev pub IsClosed : Scenario → Tables → ℕ → List Pair → Type 0
IsClosed scenario tables m pairs =
    (pair next : Pair) → Contains pairs pair → IsPair scenario next → IsTrue (leads_to scenario tables m pair next) → Contains pairs next

-- the reach of a local stamp holds its own pair, and it is closed, ..
abbrev pub ReachIsClosed : Type 0
ReachIsClosed =
    (scenario : Scenario) (tables : Tables) (m g : ℕ) → GoesTo scenario m g
    → Contains (reach_of scenario tables m g) (pair_of m g) × IsClosed scenario tables m (reach_of scenario tables m g)

-- .. and all such pairs hold the reach: it is the least that does both
abbrev pub ReachIsLeast : Type 0
ReachIsLeast =
    (scenario : Scenario) (tables : Tables) (m g : ℕ) (pairs : List Pair) → GoesTo scenario m g
    → Contains pairs (pair_of m g) → IsClosed scenario tables m pairs
    → (pair : Pair) → Contains (reach_of scenario tables m g) pair → Contains pairs pair

-- the time of a local stamp is at most the size of its reach over any tables that enclose arrival and settling
abbrev pub StampsWithinReach : Type 0
StampsWithinReach =
    (scenario : Scenario) (schedule : Schedule) (tables : Tables) → IsScenario scenario → Encloses scenario schedule tables
    → (m g : ℕ) → GoesTo scenario m g
    → (local_stamp scenario schedule m g).time ≤ length (reach_of scenario tables m g)

-- and it is more than the number of messages that surely arrive there before
abbrev pub StampsPastSureBefore : Type 0
StampsPastSureBefore =
    (scenario : Scenario) (schedule : Schedule) (tables : Tables) → IsScenario scenario → Encloses scenario schedule tables
    → (n g : ℕ) → GoesTo scenario n g
    → 1 + length (sure_before scenario tables g n) ≤ (local_stamp scenario schedule n g).time

-- the test leaves out no message that is ahead of the target at its group
abbrev pub KeepsThoseAhead : Scenario → Schedule → (ℕ → Bool) → Type 0
KeepsThoseAhead scenario schedule leaves_out =
    (n : ℕ) → GoesTo scenario n scenario.target_group
    → IsTrue (is_less (local_stamp scenario schedule n scenario.target_group) (final_stamp scenario schedule scenario.target_message))
    → IsFalse (leaves_out n)

-- the latency under a schedule is at most a bound that leaves out no message ahead of the target, over any tables that enclose arrival and settling
abbrev pub BoundByHolds : Type 0
BoundByHolds =
    (scenario : Scenario) (schedule : Schedule) (tables : Tables) (leaves_out : ℕ → Bool)
    → IsScenario scenario
    → Encloses scenario schedule tables
    → KeepsThoseAhead scenario schedule leaves_out
    → latency_of scenario schedule ≤ bound_by scenario tables leaves_out

-- the latency under a schedule is at most the stamp bound over any tables that enclose arrival and settling under it
abbrev pub StampBoundOverTables : Type 0
StampBoundOverTables =
    (scenario : Scenario) (schedule : Schedule) (tables : Tables)
    → IsScenario scenario
    → Encloses scenario schedule tables
    → latency_of scenario schedule ≤ stamp_bound_over scenario tables

-- the latency under a member of a box is at most the stamp bound of the box
abbrev pub StampBoundHolds : Type 0
StampBoundHolds =
    (scenario : Scenario) (ranges : Box) (schedule : Schedule)
    → IsScenario scenario
    → IsIn ranges schedule
    → latency_of scenario schedule ≤ stamp_bound scenario ranges

-- the stamp bound of a box is at most its plain bound
abbrev pub StampBoundAtMostPlain : Type 0
StampBoundAtMostPlain = (scenario : Scenario) (ranges : Box) → stamp_bound scenario ranges ≤ plain_bound scenario ranges
