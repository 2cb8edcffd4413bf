-- The delay of each packet in a member of a box lies between those of the box's least and greatest delays.
use Rattle.std.proofs.Common.{ℕ, zero, suc, ◌≤◌, List, [], ◌∷◌, Option, Some, None, get_or, arith}
use Rattle.std.specs.Option.{option_map_or}
use Rattle.convoy_scenario.specs.Scenario.{Scenario}
use Rattle.convoy_packets.specs.declared.packet.Packet.{Packet}
use Rattle.convoy_packets.specs.Packets.{packets_of, place_of}
use Rattle.convoy_packets.specs.Assignment.{AreWithin, Schedule, delay_of}
use Rattle.convoy_packets.specs.Table.{least_of, least_delays, greatest_delays}
use Rattle.convoy_intervals.specs.Boxes.{Box, greatest_of, IsIn}

least_at : (ranges : Box) (delays : List ℕ) → AreWithin ranges delays → (i : ℕ) → get_or (least_delays ranges) i 0 ≤ get_or delays i 0
least_at [] [] member i = omega arith
least_at [] (d ∷ ds) member i = absurd member
least_at (r ∷ rs) [] member i = absurd member
least_at (r ∷ rs) (d ∷ ds) member zero = member.0.0
least_at (r ∷ rs) (d ∷ ds) member (suc i) = least_at rs ds member.1 i

greatest_at : (ranges : Box) (delays : List ℕ) → AreWithin ranges delays → (i : ℕ) → get_or delays i 0 ≤ get_or (greatest_delays ranges) i 0
greatest_at [] [] member i = omega arith
greatest_at [] (d ∷ ds) member i = absurd member
greatest_at (r ∷ rs) [] member i = absurd member
greatest_at (r ∷ rs) (d ∷ ds) member zero = member.0.1
greatest_at (r ∷ rs) (d ∷ ds) member (suc i) = greatest_at rs ds member.1 i

-- a packet's delay rises with the delays at its place, if it has one
by_place : (low high : List ℕ) → ((i : ℕ) → get_or low i 0 ≤ get_or high i 0) → (place : Option ℕ)
    → option_map_or (λ i. get_or low i 0) place 0 ≤ option_map_or (λ i. get_or high i 0) place 0
by_place low high each (Some i) = each i
by_place low high each None = omega arith

pub least_delay : (scenario : Scenario) (ranges : Box) (schedule : Schedule) → IsIn ranges schedule → (packet : Packet)
    → delay_of scenario (least_of ranges) packet ≤ delay_of scenario schedule packet
unfolding delay_of
least_delay scenario ranges schedule member packet =
    by_place (least_delays ranges) schedule.delays (least_at ranges schedule.delays member) (place_of packet (packets_of scenario))

pub greatest_delay : (scenario : Scenario) (ranges : Box) (schedule : Schedule) → IsIn ranges schedule → (packet : Packet)
    → delay_of scenario schedule packet ≤ delay_of scenario (greatest_of ranges) packet
unfolding delay_of
greatest_delay scenario ranges schedule member packet =
    by_place schedule.delays (greatest_delays ranges) (greatest_at ranges schedule.delays member) (place_of packet (packets_of scenario))
