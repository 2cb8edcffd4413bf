-- Schedule: the range of each packet, and the assignments of a delay to each packet.
use Rattle.std.specs.Prelude.{ℕ, ◌≤◌, List, map, slice_index}
use Rattle.std.specs.List.{AllZip}
use Rattle.std.specs.Option.{option_map_or}
use Rattle.convoy_scenario.specs.declared.sender.Sender.{Sender}
use Rattle.convoy_scenario.specs.declared.sender.Sender.TheVariants.{Group}
use Rattle.convoy_scenario.specs.Scenario.{Scenario, message_at, range_between}
use Rattle.convoy_packets.specs.declared.packet.Packet.{Packet}
use Rattle.convoy_packets.specs.declared.packet.Packet.TheVariants.{Wait, Multicast, Propose}
use Rattle.convoy_packets.specs.Packets.{packets_of, place_of}
use Rattle.convoy_packets.specs.Order.{Order, IsOrder, no_order}

-- who sends a packet: the sender of its message, also before its issue, or the group of which it is the stamp
abbrev pub sender_of : Scenario → Packet → Sender
sender_of scenario (Wait m) = (message_at scenario m).sender
sender_of scenario (Multicast m g) = (message_at scenario m).sender
sender_of scenario (Propose m h g) = Group h

-- the group to which a packet goes; a wait goes nowhere, and 0 stands for that
abbrev pub receiver_of : Packet → ℕ
receiver_of (Wait m) = 0
receiver_of (Multicast m g) = g
receiver_of (Propose m h g) = g

-- the least and the greatest delay of a packet, in ticks: those of the link between its ends, or 1 and D without one; a message waits from 0 ticks to as long as it may
abbrev pub range_of : Scenario → Packet → ℕ × ℕ
range_of scenario (Wait m) = (0, (message_at scenario m).longest_wait)
range_of scenario packet = range_between scenario (sender_of scenario packet) (receiver_of packet)

-- the ranges of all packets, in the order of the packet list
unfoldable pub ranges_of : Scenario → List (ℕ × ℕ)
ranges_of scenario = map (range_of scenario) (packets_of scenario)

-- the delay is in the range
abbrev pub IsWithin : ℕ × ℕ → ℕ → Type 0
IsWithin range delay = (range.0 ≤ delay) × (delay ≤ range.1)

-- there is one delay for each range, in its range
abbrev pub AreWithin : List (ℕ × ℕ) → List ℕ → Type 0
AreWithin ranges delays = AllZip IsWithin ranges delays

-- a schedule: the delay of each packet in ticks, in the order of the packet list, and the order in which ties fall
pub record Schedule : Type 0 where
  pub delays : List ℕ
  pub order : Order

-- the schedule with these delays, in which ties fall in the fixed order
abbrev pub in_fixed_order : List ℕ → Schedule
in_fixed_order delays = record { delays = delays; order = no_order }

-- an assignment gives each packet of the scenario a delay in its range, and has an order of the scenario's ties
pub record IsAssignment (scenario : Scenario) (schedule : Schedule) : Type 0 where
  pub delays : AreWithin (ranges_of scenario) schedule.delays
  pub order : IsOrder scenario schedule.order

-- the delay of a packet among some, by its place in the list of packets; what is no packet takes no time, as what a group sends itself where it has no link to itself
abbrev pub delay_in : List Packet → List ℕ → Packet → ℕ
delay_in packets delays packet = option_map_or (λ i. slice_index delays i) (place_of packet packets) 0

-- the delay of a packet in a schedule of the scenario
unfoldable pub delay_of : Scenario → Schedule → Packet → ℕ
delay_of scenario schedule packet = delay_in (packets_of scenario) schedule.delays packet
