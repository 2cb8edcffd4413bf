-- Worked rows: scenarios in real time, the same ones in ticks that are twice as fine, and runs of them.
use Rattle.std.specs.List.{AllZip}
use Rattle.std.proofs.lemmas.Bool.{ne_eqb}
use Rattle.std.proofs.Common.{◌≡◌, ℕ, zero, suc, ◌≤◌, Bool, true, false, IsTrue, List, [], ◌∷◌, length, map, replicate, codes, refl, arith}
use Rattle.convoy_scenario.specs.declared.sender.Sender.TheVariants.{Client, Group}
use Rattle.convoy_draft.specs.declared.time.Time.TheVariants.{Real}
use Rattle.convoy_scenario.specs.Scenario.{Link, Scenario, stamp_takes_time, takes_time}
use Rattle.convoy_scenario.specs.declared.sender.Sender.{Sender}
use Rattle.convoy_packets.specs.declared.packet.Packet.{Packet}
use Rattle.convoy_packets.specs.Packets.{packets_of}
use Rattle.convoy_packets.specs.Order.{no_order}
use Rattle.convoy_packets.specs.Assignment.{delay_of, in_fixed_order, range_of}
use Rattle.convoy_packets.specs.ScheduleLaws.{is_sent}
use Rattle.convoy_sim.specs.Times.{arrive, settle}
use Rattle.convoy_sim.specs.Moments.{arrival_rank, commit_rank, moments_of}
use Rattle.convoy_sim.specs.Stamps.{clocks_of, local_stamp, final_stamp}
use Rattle.convoy_sim.specs.Delivery.{holds_back, deliver, latency_at, latency_of}
use Rattle.convoy_scenario.proofs.RowScenarios.{message, base_with, base}
use Rattle.convoy_laws.specs.FinerTicks.{AreSameRanges, IsFiner, IsInRange, finer_range}
use Rattle.convoy_origin.proofs.Lists.{zip_at}
use Rattle.convoy_origin.proofs.PacketDelays.{in_of_sent}

-- x from a client to b, t from a client to a and b, and y from a to a and b, with delays of 1 to 3 ticks
unfoldable in_ticks : Scenario
in_ticks = record base { time = Real }

half_link : Sender → ℕ → Link
half_link sender to = record { sender = sender; to = to; least = 2; most = 6; stamps = false }

-- the same with delays of 2 to 6 half ticks
unfoldable in_half_ticks : Scenario
in_half_ticks = record base {
  time = Real;
  delay = 6;
  links = half_link (Client 0) 0 ∷ half_link (Client 0) 1 ∷ half_link (Group 0) 1 ∷ half_link (Group 1) 0 ∷ [];
  multicasts = message (codes "x") (Client 0) (1 ∷ []) 0 ∷ message (codes "t") (Client 0) (0 ∷ 1 ∷ []) 0
      ∷ message (codes "y") (Group 0) (0 ∷ 1 ∷ []) 12 ∷ [];
}

-- the very ranges lie within themselves
ranges_within : (times : ℕ) (ranges : List (ℕ × ℕ)) → AllZip (IsInRange times) ranges (map (finer_range times) ranges)
ranges_within times [] = tt
ranges_within times (range ∷ ranges) = ((omega arith, omega arith), ranges_within times ranges)

ranges_same : (times : ℕ) (ranges : List (ℕ × ℕ)) → AllZip (λ range finer. finer ≡ finer_range times range) ranges (map (finer_range times) ranges)
ranges_same times [] = tt
ranges_same times (range ∷ ranges) = (refl, ranges_same times ranges)

-- what holds of the ranges one by one holds of those of each packet
at_packet : (R : ℕ × ℕ → ℕ × ℕ → Type 0) (plan fine : Scenario) → AllZip R (map (range_of plan) (packets_of plan)) (map (range_of fine) (packets_of plan))
    → (packet : Packet) → IsTrue (is_sent plan packet) → R (range_of plan packet) (range_of fine packet)
at_packet R plan fine holds packet sent = zip_at R (range_of plan) (range_of fine) (packets_of plan) holds packet (in_of_sent plan packet sent)

-- what a group sends to itself, a message or a stamp, takes time in both, or in neither
abbrev TakesAlike : Scenario → Scenario → ℕ → Type 0
TakesAlike scenario other g = (takes_time other (Group g) g ≡ takes_time scenario (Group g) g) × (stamp_takes_time other g g ≡ stamp_takes_time scenario g g)

-- neither has a link from a group to itself
none_home : (g : ℕ) → TakesAlike in_ticks in_half_ticks g
unfolding in_ticks in_half_ticks half_link base_with message
none_home zero = (refl, refl)
none_home (suc zero) = (refl, refl)
none_home (suc (suc g)) = rw (ne_eqb (suc (suc g)) 0 (λ e. omega (arith, e)), ne_eqb (suc (suc g)) 1 (λ e. omega (arith, e))) (refl, refl)

half_ticks_are_finer : IsFiner 2 in_ticks in_half_ticks
unfolding in_ticks in_half_ticks half_link base_with message packets_of
half_ticks_are_finer = record {
  some = omega arith;
  groups = refl;
  messages = (
    record { sender = refl; destinations = refl; at = omega arith; until = omega arith },
    (record { sender = refl; destinations = refl; at = omega arith; until = omega arith }, (record { sender = refl; destinations = refl; at = omega arith; until = omega arith }, tt)),
  );
  homes = record { messages = λ g. (none_home g).0; stamps = λ g. (none_home g).1 };
  ranges = λ packet sent travels. at_packet (IsInRange 2) in_ticks in_half_ticks (ranges_within 2 (map (range_of in_ticks) (packets_of in_ticks))) packet sent;
  target_message = refl;
  target_group = refl;
}

same_ranges : AreSameRanges 2 in_ticks in_half_ticks
unfolding in_ticks in_half_ticks half_link base_with message packets_of
same_ranges packet sent =
    at_packet (λ range finer. finer ≡ finer_range 2 range) in_ticks in_half_ticks (ranges_same 2 (map (range_of in_ticks) (packets_of in_ticks))) packet sent

-- y takes 2 to 3 ticks from a to a itself, and where their link is for stamps so does a's stamp of t and of y ..
unfoldable own_in_ticks : Bool → Scenario
own_in_ticks stamps = record in_ticks { links = record { sender = Group 0; to = 0; least = 2; most = 3; stamps = stamps } ∷ [] }

-- .. and 4 to 6 half ticks
unfoldable own_in_half_ticks : Bool → Scenario
own_in_half_ticks stamps = record in_half_ticks {
  links = half_link (Client 0) 0 ∷ half_link (Client 0) 1 ∷ record { sender = Group 0; to = 0; least = 4; most = 6; stamps = stamps } ∷ half_link (Group 0) 1 ∷ half_link (Group 1) 0 ∷ [];
}

-- a alone has a link to itself, in both
one_home : (stamps : Bool) (g : ℕ) → TakesAlike (own_in_ticks stamps) (own_in_half_ticks stamps) g
unfolding own_in_ticks own_in_half_ticks in_ticks in_half_ticks half_link base_with message
one_home stamps zero = (refl, refl)
one_home stamps (suc zero) = (refl, refl)
one_home stamps (suc (suc g)) = rw (ne_eqb (suc (suc g)) 0 (λ e. omega (arith, e)), ne_eqb (suc (suc g)) 1 (λ e. omega (arith, e))) (refl, refl)

-- eight packets go to other places, and y to a; where the link is for stamps two more stay there
own_packets : (length (packets_of (own_in_ticks false)) ≡ 9) × (length (packets_of (own_in_ticks true)) ≡ 11)
unfolding own_in_ticks in_ticks base_with message packets_of
own_packets = (refl, refl)

own_ranges : (stamps : Bool) → map (range_of (own_in_half_ticks stamps)) (packets_of (own_in_ticks stamps)) ≡ map (finer_range 2) (map (range_of (own_in_ticks stamps)) (packets_of (own_in_ticks stamps)))
unfolding own_in_ticks own_in_half_ticks in_ticks in_half_ticks half_link base_with message packets_of
own_ranges true = refl
own_ranges false = refl

own_in_range : (stamps : Bool) (packet : Packet) → IsTrue (is_sent (own_in_ticks stamps) packet) → IsInRange 2 (range_of (own_in_ticks stamps) packet) (range_of (own_in_half_ticks stamps) packet)
own_in_range stamps packet sent =
    at_packet (IsInRange 2) (own_in_ticks stamps) (own_in_half_ticks stamps)
    (rw (own_ranges stamps) (ranges_within 2 (map (range_of (own_in_ticks stamps)) (packets_of (own_in_ticks stamps))))) packet sent

own_is_finer : (stamps : Bool) → IsFiner 2 (own_in_ticks stamps) (own_in_half_ticks stamps)
unfolding own_in_ticks own_in_half_ticks in_ticks in_half_ticks half_link base_with message
own_is_finer stamps = record {
  some = omega arith;
  groups = refl;
  messages = (
    record { sender = refl; destinations = refl; at = omega arith; until = omega arith },
    (record { sender = refl; destinations = refl; at = omega arith; until = omega arith }, (record { sender = refl; destinations = refl; at = omega arith; until = omega arith }, tt)),
  );
  homes = record { messages = λ g. (one_home stamps g).0; stamps = λ g. (one_home stamps g).1 };
  ranges = λ packet sent travels. own_in_range stamps packet sent;
  target_message = refl;
  target_group = refl;
}

own_has_same_ranges : (stamps : Bool) → AreSameRanges 2 (own_in_ticks stamps) (own_in_half_ticks stamps)
own_has_same_ranges stamps packet sent =
    at_packet (λ range finer. finer ≡ finer_range 2 range) (own_in_ticks stamps) (own_in_half_ticks stamps)
    (rw (own_ranges stamps) (ranges_same 2 (map (range_of (own_in_ticks stamps)) (packets_of (own_in_ticks stamps))))) packet sent

-- each packet takes a tick and a half, and t is six half ticks late ..
half_ticks_late : latency_of in_half_ticks (in_fixed_order (replicate 8 3)) ≡ 6
unfolding in_half_ticks half_link base_with message packets_of delay_of arrive settle arrival_rank commit_rank no_order moments_of clocks_of local_stamp final_stamp holds_back deliver latency_at latency_of
half_ticks_late = refl

-- .. and three ticks late with each arrival rounded up
ticks_late : latency_of in_ticks (in_fixed_order (2 ∷ 2 ∷ 2 ∷ 1 ∷ 1 ∷ 2 ∷ 2 ∷ 1 ∷ [])) ≡ 3
unfolding in_ticks base_with message packets_of delay_of arrive settle arrival_rank commit_rank no_order moments_of clocks_of local_stamp final_stamp holds_back deliver latency_at latency_of
ticks_late = refl

-- y may be issued from tick 5 to 6 ..
unfoldable waiting : Scenario
waiting = record in_ticks {
  multicasts = message (codes "x") (Client 0) (1 ∷ []) 0 ∷ message (codes "t") (Client 0) (0 ∷ 1 ∷ []) 0
      ∷ record { name = codes "y"; sender = Group 0; destinations = 0 ∷ 1 ∷ []; at = 5; longest_wait = 1 } ∷ [];
}

-- .. and from half tick 11 to 12, or just at half tick 11
unfoldable waiting_in_half_ticks : ℕ → Scenario
waiting_in_half_ticks longest_wait = record in_half_ticks {
  multicasts = message (codes "x") (Client 0) (1 ∷ []) 0 ∷ message (codes "t") (Client 0) (0 ∷ 1 ∷ []) 0
      ∷ record { name = codes "y"; sender = Group 0; destinations = 0 ∷ 1 ∷ []; at = 11; longest_wait = longest_wait } ∷ [];
}

waits_are_finer : (longest_wait : ℕ) → longest_wait ≤ 1 → IsFiner 2 waiting (waiting_in_half_ticks longest_wait)
unfolding waiting waiting_in_half_ticks in_ticks in_half_ticks half_link base_with message packets_of
waits_are_finer longest_wait few = record {
  some = omega arith;
  groups = refl;
  messages = (
    record { sender = refl; destinations = refl; at = omega arith; until = omega arith },
    (record { sender = refl; destinations = refl; at = omega arith; until = omega arith }, (record { sender = refl; destinations = refl; at = omega arith; until = omega arith }, tt)),
  );
  homes = record { messages = λ g. (none_home g).0; stamps = λ g. (none_home g).1 };
  ranges = λ packet sent travels. at_packet (IsInRange 2) waiting (waiting_in_half_ticks longest_wait)
      ((omega arith, omega arith), ((omega arith, omega arith), ((omega arith, omega arith), ((omega arith, omega arith), ((omega arith, omega arith), ((omega arith, omega arith), ((omega arith, omega arith), ((omega arith, omega arith), ((omega arith, omega arith), tt))))))))) packet sent;
  target_message = refl;
  target_group = refl;
}

-- where y is issued at half tick 11 it holds t back for 23 half ticks ..
half_ticks_held : latency_of (waiting_in_half_ticks 0) (in_fixed_order (replicate 8 6)) ≡ 23
unfolding waiting_in_half_ticks in_half_ticks half_link base_with message packets_of delay_of arrive settle arrival_rank commit_rank no_order moments_of clocks_of local_stamp final_stamp holds_back deliver latency_at latency_of
half_ticks_held = refl

-- .. and for 12 ticks with its issue rounded up, as the first of its places says
ticks_held : latency_of waiting (in_fixed_order (3 ∷ 3 ∷ 3 ∷ 3 ∷ 3 ∷ 1 ∷ 3 ∷ 3 ∷ 3 ∷ [])) ≡ 12
unfolding waiting in_ticks base_with message packets_of delay_of arrive settle arrival_rank commit_rank no_order moments_of clocks_of local_stamp final_stamp holds_back deliver latency_at latency_of
ticks_held = refl

-- t may be issued at tick 0 or 1
unfoldable target_waiting : Scenario
target_waiting = record in_ticks {
  multicasts = message (codes "x") (Client 0) (1 ∷ []) 0 ∷ record (message (codes "t") (Client 0) (0 ∷ 1 ∷ []) 0) { longest_wait = 1 }
      ∷ message (codes "y") (Group 0) (0 ∷ 1 ∷ []) 6 ∷ [];
}

unfoldable target_waiting_in_half_ticks : Scenario
target_waiting_in_half_ticks = record in_half_ticks {
  multicasts = message (codes "x") (Client 0) (1 ∷ []) 0 ∷ record (message (codes "t") (Client 0) (0 ∷ 1 ∷ []) 0) { longest_wait = 2 }
      ∷ message (codes "y") (Group 0) (0 ∷ 1 ∷ []) 12 ∷ [];
}

-- where it is issued at half tick 1 it is 23 half ticks late ..
half_ticks_from_issue : latency_of target_waiting_in_half_ticks (in_fixed_order (6 ∷ 1 ∷ replicate 7 6)) ≡ 23
unfolding target_waiting_in_half_ticks in_half_ticks half_link base_with message packets_of delay_of arrive settle arrival_rank commit_rank no_order moments_of clocks_of local_stamp final_stamp holds_back deliver latency_at latency_of
half_ticks_from_issue = refl

-- .. and 12 ticks with its issue at tick 0 and each other time less half a tick rounded up; with its issue rounded up, too, it would be 11
ticks_from_issue : latency_of target_waiting (in_fixed_order (3 ∷ 0 ∷ replicate 7 3)) ≡ 12
unfolding target_waiting in_ticks base_with message packets_of delay_of arrive settle arrival_rank commit_rank no_order moments_of clocks_of local_stamp final_stamp holds_back deliver latency_at latency_of
ticks_from_issue = refl

ticks_from_issue_rounded_up : latency_of target_waiting (in_fixed_order (3 ∷ 1 ∷ replicate 7 3)) ≡ 11
unfolding target_waiting in_ticks base_with message packets_of delay_of arrive settle arrival_rank commit_rank no_order moments_of clocks_of local_stamp final_stamp holds_back deliver latency_at latency_of
ticks_from_issue_rounded_up = refl
