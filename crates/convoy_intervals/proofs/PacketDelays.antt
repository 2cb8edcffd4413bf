-- The least and the greatest delay of a packet in a box, by the packet's place.
use Rattle.std.specs.Prelude.{◌≡◌, ℕ, zero, suc, ◌+◌, ◌<◌, List, [], ◌∷◌, map, length, Option, Some, None, IfSome}
use Rattle.std.specs.Option.{option_map_or}
use Rattle.std.proofs.Common.{refl, sym, ap, ◌∙◌, arith, get_or}
use Rattle.std.proofs.lemmas.List.{length-map}
use Rattle.std.proofs.lemmas.List.Elements.{length_all_zip}
use Rattle.std.proofs.lemmas.List.Quantifiers.{position-Some}
use Rattle.convoy_scenario.specs.Scenario.{Scenario, message_at}
use Rattle.convoy_packets.specs.declared.packet.Packet.{Packet}
use Rattle.convoy_packets.specs.declared.packet.Packet.TheVariants.{Wait, Multicast, Propose}
use Rattle.convoy_packets.specs.Packets.{packets_of, place_of, is_packet}
use Rattle.convoy_packets.specs.Assignment.{delay_of, in_fixed_order, range_of, ranges_of}
use Rattle.convoy_packets.specs.Table.{PacketTable, table_of}
use Rattle.convoy_sim.specs.Times.{issue, arrive, propose_arrive}
use Rattle.convoy_intervals.specs.Boxes.{IsBox, IsInside, range_at}

-- a box has a range for each packet
pub length-box : (plan : Scenario) (ranges : List (ℕ × ℕ)) → IsBox plan ranges → length ranges ≡ length (packets_of plan)
unfolding ranges_of
length-box plan ranges box =
    sym (length_all_zip IsInside (ranges_of plan) ranges box) ∙ length-map (packets_of plan) (range_of plan)

-- the place of a packet, where it has one, is the place of a range of the box
pub place_in_box : (plan : Scenario) (table : PacketTable) (ranges : List (ℕ × ℕ)) (packet : Packet) (place : Option ℕ) → table ≡ table_of plan → IsBox plan ranges → place ≡ place_of packet table.packets → IfSome place (λ i. i < length ranges)
place_in_box plan table ranges packet None of_scenario box is = tt
place_in_box plan table ranges packet (Some i) of_scenario box is =
    let found = position-Some (is_packet packet) table.packets i packet (sym is) in
    omega (arith, found.0, length-box plan ranges box, ap (λ (t : PacketTable). length t.packets) of_scenario)

-- the delay at a place in the list of one end of each range
get_or-map_end : (end : ℕ × ℕ → ℕ) → end (0, 0) ≡ 0 → (ranges : List (ℕ × ℕ)) (i : ℕ) → get_or (map end ranges) i 0 ≡ end (get_or ranges i (0, 0))
get_or-map_end end none [] i = sym none
get_or-map_end end none (r ∷ rs) zero = refl
get_or-map_end end none (r ∷ rs) (suc i) = get_or-map_end end none rs i

module _ (plan : Scenario) (table : PacketTable) (ranges : List (ℕ × ℕ)) (of_scenario : table ≡ table_of plan) (end : ℕ × ℕ → ℕ) (none : end (0, 0) ≡ 0) where
  -- the delay of a packet with that end of each range, from the packet's range
  pub delay_at_end : (packet : Packet) → delay_of plan (in_fixed_order (map end ranges)) packet ≡ end (option_map_or (range_at ranges) (place_of packet table.packets) (0, 0))
  unfolding delay_of
  delay_at_end packet =
      at_place (place_of packet (packets_of plan)) ∙ ap (λ (t : PacketTable). end (option_map_or (range_at ranges) (place_of packet t.packets) (0, 0))) (sym of_scenario) where
        at_place : (place : Option ℕ) → option_map_or (λ i. get_or (map end ranges) i 0) place 0 ≡ end (option_map_or (range_at ranges) place (0, 0))
        at_place (Some i) = get_or-map_end end none ranges i
        at_place None = sym none

  -- the issue with that end of each range, from the range of the message's wait
  pub issue_at_end : (m : ℕ) → issue plan (in_fixed_order (map end ranges)) m ≡ (message_at plan m).at + end (option_map_or (range_at ranges) (place_of (Wait m) table.packets) (0, 0))
  issue_at_end m = ap (λ d. (message_at plan m).at + d) (delay_at_end (Wait m))

  -- arrival with that end of each range, from the issue and the range of the message's packet
  pub arrive_at_end : (m g : ℕ) → arrive plan (in_fixed_order (map end ranges)) m g ≡ issue plan (in_fixed_order (map end ranges)) m + end (option_map_or (range_at ranges) (place_of (Multicast m g) table.packets) (0, 0))
  unfolding arrive
  arrive_at_end m g = ap (λ d. issue plan (in_fixed_order (map end ranges)) m + d) (delay_at_end (Multicast m g))

  -- and the arrival of a proposal, from the range of the proposal's packet
  pub propose_at_end : (m g h : ℕ) → propose_arrive plan (in_fixed_order (map end ranges)) m g h ≡ arrive plan (in_fixed_order (map end ranges)) m h + end (option_map_or (range_at ranges) (place_of (Propose m h g) table.packets) (0, 0))
  propose_at_end m g h = ap (λ d. arrive plan (in_fixed_order (map end ranges)) m h + d) (delay_at_end (Propose m h g))
