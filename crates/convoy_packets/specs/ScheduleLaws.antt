-- What always holds of packet lists, ranges and schedules.
use Rattle.std.specs.Prelude.{◌≡◌, ◌↔◌, ℕ, ℤ, pos, ◌*◌, ◌≤◌, Bool, ◌&&◌, not, List, [], length, map, Some, Ok, slice_index, IsFalse, IsTrue}
use Rattle.std.specs.List.{slice_get}
use Rattle.std.specs.Option.{is_some}
use Rattle.convoy_draft.specs.declared.time.Time.TheVariants.{Real}
use Rattle.convoy_scenario.specs.Scenario.{Scenario, message_at, may_wait, stamp_takes_time, takes_time, is_addressed}
use Rattle.convoy_scenario.specs.WellFormed.{IsScenario}
use Rattle.convoy_packets.specs.declared.packet.TheConstants.{MOST_PACKETS}
use Rattle.convoy_packets.specs.declared.table_places.TheConstants.{PLACES}
use Rattle.convoy_packets.specs.declared.packet.Packet.{Packet}
use Rattle.convoy_packets.specs.declared.packet.Packet.TheVariants.{Wait, Multicast, Propose}
use Rattle.convoy_packets.specs.Packets.{is_wait, packets_of, place_of}
use Rattle.convoy_packets.specs.Assignment.{Schedule, AreWithin, IsAssignment, IsWithin, delay_of, range_of, ranges_of}
use Rattle.convoy_packets.specs.Order.{IsOrder, Order, no_order}
use Rattle.convoy_packets.specs.OrderLists.{AreSmall, is_no_order, order_of, rank_count, ranks_of}
use Rattle.convoy_packets.specs.Given.{schedule_of}
use Rattle.convoy_packets.specs.Table.{least_of}

-- the scenario has the packet: the wait of a message that may wait, a message to a destination where that takes time, or the stamp of a destination to one where that does
abbrev pub is_sent : Scenario → Packet → Bool
is_sent scenario (Wait m) = may_wait (message_at scenario m)
is_sent scenario (Multicast m g) = is_addressed (message_at scenario m) g && takes_time scenario (message_at scenario m).sender g
is_sent scenario (Propose m h g) = is_addressed (message_at scenario m) h && is_addressed (message_at scenario m) g && stamp_takes_time scenario h g

-- the list has the packets that the scenario sends, and no others
abbrev pub PacketsAreThoseSent : Type 0
PacketsAreThoseSent = (scenario : Scenario) (packet : Packet) → is_some (place_of packet (packets_of scenario)) ≡ is_sent scenario packet

-- no packet stands twice in the list: it is found where it stands
abbrev pub PacketsStandOnce : Type 0
PacketsStandOnce =
    (scenario : Scenario) (i : ℕ) (packet : Packet) → IsScenario scenario → slice_get (packets_of scenario) i ≡ Some packet
    → place_of packet (packets_of scenario) ≡ Some i

-- the packet stands where it is found
abbrev pub PlacesLeadBack : Type 0
PlacesLeadBack =
    (scenario : Scenario) (i : ℕ) (packet : Packet) → place_of packet (packets_of scenario) ≡ Some i
    → slice_get (packets_of scenario) i ≡ Some packet

-- a scenario has at most 1,168 packets
abbrev pub PacketsAreFew : Type 0
PacketsAreFew = (scenario : Scenario) → IsScenario scenario → length (packets_of scenario) ≤ MOST_PACKETS

-- there is one range for each packet
abbrev pub RangesAreOneEach : Type 0
RangesAreOneEach = (scenario : Scenario) → length (ranges_of scenario) ≡ length (packets_of scenario)

-- an assignment has one delay for each packet
abbrev pub DelaysAreOneEach : Type 0
DelaysAreOneEach =
    (scenario : Scenario) (schedule : Schedule) → IsAssignment scenario schedule → length schedule.delays ≡ length (packets_of scenario)

-- the delay of the packet at a place is the one that the schedule has there
abbrev pub DelaysAreByPlace : Type 0
DelaysAreByPlace =
    (scenario : Scenario) (schedule : Schedule) (i : ℕ) (packet : Packet) → IsScenario scenario
    → slice_get (packets_of scenario) i ≡ Some packet → delay_of scenario schedule packet ≡ slice_index schedule.delays i

-- an assignment keeps each packet that is sent within its range
abbrev pub DelaysAreWithin : Type 0
DelaysAreWithin =
    (scenario : Scenario) (schedule : Schedule) (packet : Packet) → IsAssignment scenario schedule → IsTrue (is_sent scenario packet)
    → IsWithin (range_of scenario packet) (delay_of scenario schedule packet)

-- what is not sent takes no time
abbrev pub UnsentTakesNoTime : Type 0
UnsentTakesNoTime =
    (scenario : Scenario) (schedule : Schedule) (packet : Packet) → IsTrue (not (is_sent scenario packet))
    → delay_of scenario schedule packet ≡ 0

-- in an assignment no packet travels longer than the greatest delay
abbrev pub DelaysAreAtMost : Type 0
DelaysAreAtMost =
    (scenario : Scenario) (schedule : Schedule) (packet : Packet) → IsScenario scenario → IsAssignment scenario schedule → IsFalse (is_wait packet)
    → delay_of scenario schedule packet ≤ scenario.delay

-- in an assignment no message waits longer than it may
abbrev pub WaitsAreAtMost : Type 0
WaitsAreAtMost =
    (scenario : Scenario) (schedule : Schedule) (m : ℕ) → IsAssignment scenario schedule
    → delay_of scenario schedule (Wait m) ≤ (message_at scenario m).longest_wait

-- a list of numbers gives a schedule just where its members are the delays, each in the range at its place
abbrev pub ListsOfDelaysAreSchedules : Type 0
ListsOfDelaysAreSchedules =
    (ranges : List (ℕ × ℕ)) (numbers : List ℤ) (schedule : Schedule)
    → (schedule_of ranges numbers ≡ Ok schedule)
    ↔ ((numbers ≡ map pos schedule.delays) × AreWithin ranges schedule.delays × (schedule.order ≡ no_order))

-- the fixed order of ties is one of every scenario
abbrev pub FixedOrderIsOrder : Type 0
FixedOrderIsOrder = (scenario : Scenario) → IsOrder scenario no_order

-- the least delays, with ties in the fixed order, are an assignment
abbrev pub LeastIsAssignment : Type 0
LeastIsAssignment = (scenario : Scenario) → IsScenario scenario → IsAssignment scenario (least_of (ranges_of scenario))

-- the list of an order's ranks gives the order
abbrev pub OrdersAreTheirLists : Type 0
OrdersAreTheirLists =
    (scenario : Scenario) (order : Order) → IsOrder scenario order → order_of scenario (ranks_of scenario order) ≡ order

-- a list with one number for each rank is the list of the order that it gives
abbrev pub ListsAreTheirOrders : Type 0
ListsAreTheirOrders =
    (scenario : Scenario) (ranks : List ℕ) → length ranks ≡ rank_count scenario → ranks_of scenario (order_of scenario ranks) ≡ ranks

-- the list of an order has one number for each rank, and none is too great
abbrev pub RanksAreOneEach : Type 0
RanksAreOneEach =
    (scenario : Scenario) (order : Order) → IsOrder scenario order
    → (length (ranks_of scenario order) ≡ rank_count scenario) × AreSmall (ranks_of scenario order)

-- in real time ranks of which none is too great give an order of the scenario's ties
abbrev pub RanksGiveOrders : Type 0
RanksGiveOrders =
    (scenario : Scenario) (ranks : List ℕ) → scenario.time ≡ Real → AreSmall ranks → IsOrder scenario (order_of scenario ranks)

-- an order of a scenario's ties has at most 256 ranks as a list
abbrev pub RanksAreFew : Type 0
RanksAreFew = (scenario : Scenario) → rank_count scenario ≤ 2 * PLACES

-- a list of no ranks gives the fixed order
abbrev pub NoRanksGiveFixedOrder : Type 0
NoRanksGiveFixedOrder = (scenario : Scenario) → order_of scenario [] ≡ no_order

-- all ranks are 0 just in the fixed order
abbrev pub FixedOrderIsDecided : Type 0
FixedOrderIsDecided = (scenario : Scenario) (order : Order) → IsOrder scenario order → IsTrue (is_no_order order) ↔ (order ≡ no_order)
