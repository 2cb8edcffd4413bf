-- What a packet table shows: whether the scenario's lines say how time goes, the packets, and the range of each.
use Rattle.std.specs.Prelude.{◌≡◌, ℕ, ◌*◌, ◌≤◌, Bool, List, length, map, Option, IsFalse}
use Rattle.std.specs.List.{All}
use Rattle.convoy_draft.specs.declared.limits.TheConstants.{GREATEST_DELAY, GREATEST_WHOLE_DELAY, MOST_GROUPS, MOST_MULTICASTS}
use Rattle.convoy_scenario.specs.Scenario.{Scenario, is_timed}
use Rattle.convoy_packets.specs.declared.packet.TheConstants.{MOST_PACKETS}
use Rattle.convoy_packets.specs.declared.packet.Packet.{Packet}
use Rattle.convoy_packets.specs.Packets.{packets_of}
use Rattle.convoy_packets.specs.Assignment.{Schedule, in_fixed_order, ranges_of}
use Rattle.convoy_packets.specs.Slots.{HaveSlots, HoldPlaces}

-- whether time is real, some message may wait or some group's own stamps take time, the packets in their order, and at the same place the least and the greatest delay of each
pub record PacketTable : Type 0 where
  pub timed : Bool
  pub packets : List Packet
  pub ranges : List (ℕ × ℕ)

-- the table of a scenario
abbrev pub table_of : Scenario → PacketTable
table_of scenario = record { timed = is_timed scenario; packets = packets_of scenario; ranges = ranges_of scenario }

-- the least delay of each range, and the schedule of these in which ties fall in the fixed order
abbrev pub least_delays : List (ℕ × ℕ) → List ℕ
least_delays ranges = map (λ range. range.0) ranges

abbrev pub least_of : List (ℕ × ℕ) → Schedule
least_of ranges = in_fixed_order (least_delays ranges)

-- the greatest delay of each range, and the schedule of these in which ties fall in the fixed order
abbrev pub greatest_delays : List (ℕ × ℕ) → List ℕ
greatest_delays ranges = map (λ range. range.1) ranges

abbrev pub greatest_of : List (ℕ × ℕ) → Schedule
greatest_of ranges = in_fixed_order (greatest_delays ranges)

-- a delay, and one that is not less and within the limit of scenarios
pub record IsRange (range : ℕ × ℕ) : Type 0 where
  pub ordered : range.0 ≤ range.1
  pub high : range.1 ≤ GREATEST_DELAY

-- delays in whole ticks: at most so many, each of them of one tick or more and within D as it may be there
pub record AreWholeDelays (ranges : List (ℕ × ℕ)) : Type 0 where
  pub few : length ranges ≤ MOST_MULTICASTS * MOST_GROUPS * MOST_GROUPS
  pub low : All (λ range. 1 ≤ range.0) ranges
  pub high : All (λ range. range.1 ≤ GREATEST_WHOLE_DELAY) ranges

-- what holds of each table: there is a range for each packet, and there are not too many; where time goes in whole ticks, no message waits and no group's own stamps take time, they are delays in whole ticks
pub record IsTable (table : PacketTable) : Type 0 where
  pub one_each : length table.ranges ≡ length table.packets
  pub few : length table.packets ≤ MOST_PACKETS
  pub ranges : All IsRange table.ranges
  pub whole : IsFalse table.timed → AreWholeDelays table.ranges

-- the slots serve to look up the packets of the table
pub record IsIndexed (table : PacketTable) (slots : List (Option ℕ)) : Type 0 where
  pub lawful : IsTable table
  pub known : HaveSlots table.packets
  pub held : HoldPlaces slots table.packets
