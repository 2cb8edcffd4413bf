-- What is proved of boxes and bounds. Each is the one clause of the function of its name in the crate's module `box_laws`.
use Rattle.std.specs.Prelude.{◌≡◌, ℕ, ◌≤◌, ◌<◌, ◌↔◌, true, slice_index_or, slice_set, Some, IsFalse}
use Rattle.std.specs.List.{slice_get}
use Rattle.convoy_scenario.specs.Scenario.{Scenario}
use Rattle.convoy_scenario.specs.WellFormed.{IsScenario}
use Rattle.convoy_packets.specs.Assignment.{Schedule, IsAssignment}
use Rattle.convoy_packets.specs.declared.packet.Packet.{Packet}
use Rattle.convoy_packets.specs.Packets.{packets_of}
use Rattle.convoy_packets.specs.Order.{IsOrder}
use Rattle.convoy_packets.specs.Table.{least_of}
use Rattle.convoy_sim.specs.Delivery.{latency_of}
use Rattle.convoy_intervals.specs.Boxes.{Box, CanSplit, IsBox, IsIn, IsPoint, root_of, can_split, lower_half, upper_half, is_point, greatest_of}
use Rattle.convoy_intervals.specs.Bounds.{Tables, Encloses, tables_of, plain_bound_over, plain_bound}
use Rattle.convoy_intervals.specs.Spans.{moves_arrival, moves_settling, arrival_span, settling_span}

-- of a well-formed scenario the root is a box
abbrev pub RootIsBox : Type 0
RootIsBox = (scenario : Scenario) → IsScenario scenario → IsBox scenario (root_of scenario)

-- the members of the root box are the assignments
abbrev pub RootHoldsAll : Type 0
RootHoldsAll =
    (scenario : Scenario) (schedule : Schedule)
    → IsAssignment scenario schedule ↔ IsIn (root_of scenario) schedule × IsOrder scenario schedule.order

-- a member of a box is an assignment, with an order of the scenario's ties
abbrev pub MembersAreAssignments : Type 0
MembersAreAssignments =
    (scenario : Scenario) (ranges : Box) (schedule : Schedule)
    → IsBox scenario ranges
    → IsIn ranges schedule
    → IsOrder scenario schedule.order
    → IsAssignment scenario schedule

-- the halves of a box are boxes
abbrev pub HalvesAreBoxes : Type 0
HalvesAreBoxes =
    (scenario : Scenario) (ranges : Box) (packet at : ℕ)
    → IsBox scenario ranges
    → CanSplit ranges packet at
    → IsBox scenario (lower_half ranges packet at) × IsBox scenario (upper_half ranges packet at)

-- the members of the lower half are those of the box whose delay of the packet is at most `at`, and the members of the upper half are those whose delay of it is more: so the halves have the members of the box, and each of them once
abbrev pub HalvesPartition : Type 0
HalvesPartition =
    (ranges : Box) (packet at : ℕ) (schedule : Schedule)
    → CanSplit ranges packet at
    → (IsIn (lower_half ranges packet at) schedule ↔ IsIn ranges schedule × (slice_index_or schedule.delays packet 0 ≤ at))
    × (IsIn (upper_half ranges packet at) schedule ↔ IsIn ranges schedule × (at < slice_index_or schedule.delays packet 0))

-- the tests of a box answer yes just where the statements of their names hold
abbrev pub TestsDecide : Type 0
TestsDecide =
    (ranges : Box) (packet at : ℕ)
    → ((can_split ranges packet at ≡ true) ↔ CanSplit ranges packet at)
    × ((is_point ranges ≡ true) ↔ IsPoint ranges)

-- the upper half of a box has the greatest delays of the box
abbrev pub UpperKeepsGreatest : Type 0
UpperKeepsGreatest = (ranges : Box) (packet at : ℕ) → greatest_of (upper_half ranges packet at) ≡ greatest_of ranges

-- the greatest delays of a box are a member of it
abbrev pub GreatestIsMember : Type 0
GreatestIsMember =
    (scenario : Scenario) (ranges : Box) → IsBox scenario ranges → IsIn ranges (greatest_of ranges)

-- the least delays of a box are a member of it
abbrev pub LeastIsMember : Type 0
LeastIsMember = (scenario : Scenario) (ranges : Box) → IsBox scenario ranges → IsIn ranges (least_of ranges)

-- two members of a point have the same delays
abbrev pub PointHasOneMember : Type 0
PointHasOneMember =
    (ranges : Box) (first second : Schedule)
    → IsPoint ranges
    → IsIn ranges first
    → IsIn ranges second
    → first.delays ≡ second.delays

-- the tables of a box enclose arrival and settling under each of its members
abbrev pub MembersAreEnclosed : Type 0
MembersAreEnclosed =
    (scenario : Scenario) (ranges : Box) (schedule : Schedule) → IsIn ranges schedule → Encloses scenario schedule (tables_of scenario ranges)

-- where a packet gets another range, the spans keep what its delay is no part of
abbrev pub SpansAreCarried : Type 0
SpansAreCarried =
    (scenario : Scenario) (ranges : Box) (i : ℕ) (range : ℕ × ℕ) (packet : Packet) (m g : ℕ)
    → slice_get (packets_of scenario) i ≡ Some packet
    → (IsFalse (moves_arrival packet m g) → arrival_span scenario (slice_set ranges i range) m g ≡ arrival_span scenario ranges m g)
    × (IsFalse (moves_settling packet m g) → settling_span scenario (slice_set ranges i range) m g ≡ settling_span scenario ranges m g)

-- the latency under a schedule is at most the plain bound over any tables that enclose arrival and settling under it
abbrev pub PlainBoundOverTables : Type 0
PlainBoundOverTables =
    (scenario : Scenario) (schedule : Schedule) (tables : Tables)
    → IsScenario scenario
    → Encloses scenario schedule tables
    → latency_of scenario schedule ≤ plain_bound_over scenario tables

-- the latency under a member of a box is at most the plain bound of the box
abbrev pub PlainBoundHolds : Type 0
PlainBoundHolds =
    (scenario : Scenario) (ranges : Box) (schedule : Schedule)
    → IsScenario scenario
    → IsIn ranges schedule
    → latency_of scenario schedule ≤ plain_bound scenario ranges
