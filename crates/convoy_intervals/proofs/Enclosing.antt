-- Arrival and settling rise with the delays, so those of a box's least and greatest delays enclose those of its members.
use Rattle.std.specs.Prelude.{ℕ, zero, suc, ◌≤◌, max, List, [], ◌∷◌, map, Option, Some, None}
use Rattle.std.specs.List.{fold}
use Rattle.std.specs.Option.{option_map_or}
use Rattle.std.proofs.Common.{arith, get_or}
use Rattle.convoy_scenario.specs.Scenario.{Scenario, message_at}
use Rattle.convoy_packets.specs.declared.packet.Packet.{Packet}
use Rattle.convoy_packets.specs.declared.packet.Packet.TheVariants.{Wait, Multicast, Propose}
use Rattle.convoy_packets.specs.Packets.{packets_of, place_of}
use Rattle.convoy_packets.specs.Assignment.{AreWithin, Schedule, delay_of}
use Rattle.convoy_packets.specs.Table.{least_of, least_delays, greatest_delays}
use Rattle.convoy_sim.specs.Times.{arrive, settle, propose_arrive}
use Rattle.convoy_intervals.specs.Boxes.{IsIn, greatest_of}
use Rattle.convoy_intervals.specs.Bounds.{Encloses, tables_of}

-- each of some delays is at most that of others
pub record AreAtMost (low high : List ℕ) : Type 0 where
  pub at : (i : ℕ) → get_or low i 0 ≤ get_or high i 0

at_most_none : AreAtMost [] []
at_most_none = record { at = λ i. omega arith }

at_most_more : (x y : ℕ) (xs ys : List ℕ) → x ≤ y → AreAtMost xs ys → AreAtMost (x ∷ xs) (y ∷ ys)
at_most_more x y xs ys here rest = record { at = places } where
  places : (i : ℕ) → get_or (x ∷ xs) i 0 ≤ get_or (y ∷ ys) i 0
  places zero = here
  places (suc i) = rest.at i

pub AreAtMost-least : (ranges : List (ℕ × ℕ)) (delays : List ℕ) → AreWithin ranges delays → AreAtMost (least_delays ranges) delays
AreAtMost-least [] [] member = at_most_none
AreAtMost-least [] (d ∷ ds) member = absurd member
AreAtMost-least (r ∷ rs) [] member = absurd member
AreAtMost-least (r ∷ rs) (d ∷ ds) member = at_most_more _ _ _ _ member.0.0 (AreAtMost-least rs ds member.1)

pub AreAtMost-greatest : (ranges : List (ℕ × ℕ)) (delays : List ℕ) → AreWithin ranges delays → AreAtMost delays (greatest_delays ranges)
AreAtMost-greatest [] [] member = at_most_none
AreAtMost-greatest [] (d ∷ ds) member = absurd member
AreAtMost-greatest (r ∷ rs) [] member = absurd member
AreAtMost-greatest (r ∷ rs) (d ∷ ds) member = at_most_more _ _ _ _ member.0.1 (AreAtMost-greatest rs ds member.1)

-- the greatest of more and greater numbers
fold_max_le : (f g : ℕ → ℕ) → ((x : ℕ) → f x ≤ g x) → (xs : List ℕ) (a b : ℕ) → a ≤ b → fold max a (map f xs) ≤ fold max b (map g xs)
fold_max_le f g each [] a b le = le
fold_max_le f g each (x ∷ xs) a b le =
    let here : f x ≤ g x = each x in
    fold_max_le f g each xs (max a (f x)) (max b (g x)) (omega arith)

module _ (plan : Scenario) (low high : Schedule) (below : AreAtMost low.delays high.delays) where
  delay_le : (packet : Packet) → delay_of plan low packet ≤ delay_of plan high packet
  unfolding delay_of
  delay_le packet = at_place (place_of packet (packets_of plan)) where
    at_place : (place : Option ℕ) → option_map_or (λ i. get_or low.delays i 0) place 0 ≤ option_map_or (λ i. get_or high.delays i 0) place 0
    at_place (Some i) = below.at i
    at_place None = omega arith

  pub arrive_le : (m g : ℕ) → arrive plan low m g ≤ arrive plan high m g
  unfolding arrive
  arrive_le m g = omega (arith, delay_le (Wait m), delay_le (Multicast m g))

  propose_le : (m g h : ℕ) → propose_arrive plan low m g h ≤ propose_arrive plan high m g h
  propose_le m g h = omega (arith, arrive_le m h, delay_le (Propose m h g))

  pub settle_le : (m g : ℕ) → settle plan low m g ≤ settle plan high m g
  unfolding settle
  settle_le m g =
      fold_max_le (propose_arrive plan low m g) (propose_arrive plan high m g) (propose_le m g) (message_at plan m).destinations 0 0 (omega arith)

pub Encloses-members : (plan : Scenario) (ranges : List (ℕ × ℕ)) (schedule : Schedule) → IsIn ranges schedule → Encloses plan schedule (tables_of plan ranges)
Encloses-members plan ranges schedule member =
    let low = AreAtMost-least ranges schedule.delays member in
    let high = AreAtMost-greatest ranges schedule.delays member in
    record {
      arrival_low = λ m g goes. arrive_le plan (least_of ranges) schedule low m g;
      arrival_high = λ m g goes. arrive_le plan schedule (greatest_of ranges) high m g;
      settling_low = λ m g goes. settle_le plan (least_of ranges) schedule low m g;
      settling_high = λ m g goes. settle_le plan schedule (greatest_of ranges) high m g;
    }
