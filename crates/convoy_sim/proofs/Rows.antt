-- Worked rows, computed from the definitions alone.
use Rattle.std.proofs.Common.{◌≡◌, ℕ, List, [], ◌∷◌, length, replicate, slice_set, refl, codes}
use Rattle.convoy_scenario.specs.declared.sender.Sender.{Sender}
use Rattle.convoy_scenario.specs.declared.sender.Sender.TheVariants.{Client, Group}
use Rattle.convoy_draft.specs.declared.time.Time.{Time}
use Rattle.convoy_draft.specs.declared.time.Time.TheVariants.{Ticks, Real}
use Rattle.convoy_scenario.specs.Scenario.{Scenario}
use Rattle.convoy_packets.specs.Packets.{packets_of}
use Rattle.convoy_packets.specs.Assignment.{Schedule, delay_of, in_fixed_order}
use Rattle.convoy_packets.specs.Order.{no_order, place}
use Rattle.convoy_sim.specs.Times.{arrive, settle}
use Rattle.convoy_sim.specs.Moments.{arrival_rank, commit_rank, moments_of}
use Rattle.convoy_sim.specs.Stamps.{clocks_of, local_stamp, final_stamp}
use Rattle.convoy_sim.specs.Delivery.{holds_back, deliver, latency_at, latency_of}
use Rattle.convoy_scenario.proofs.RowScenarios.{message, of_two, base_with, base_with_y_at, base, swapped, raised_twice}

-- x arrives at b one tick before t, in its tick, or after it, in either kind of time
raced_in : Time → Scenario
raced_in time =
    of_two time 3 (message (codes "t") (Client 0) (0 ∷ 1 ∷ []) 0 ∷ message (codes "x") (Client 0) (1 ∷ []) 1
    ∷ message (codes "y") (Group 0) (0 ∷ 1 ∷ []) 5 ∷ []) 0 0

lone : Sender → List ℕ → Scenario
lone sender destinations = of_two Ticks 5 (message (codes "m") sender destinations 0 ∷ []) 0 0

-- as many groups and messages as there may be, each message from a client to all groups
largest : Scenario
largest = record (of_two Ticks 16 (replicate 16 (message (codes "m") (Client 0) (0 ∷ 1 ∷ 2 ∷ 3 ∷ 4 ∷ 5 ∷ 6 ∷ 7 ∷ []) 0)) 0 0) {
  groups = replicate 8 (codes "g");
}

base_has_eight_packets : length (packets_of base) ≡ 8
unfolding base_with message packets_of
base_has_eight_packets = refl

base_ones : latency_of base (in_fixed_order (replicate 8 1)) ≡ 2
unfolding base_with message packets_of delay_of arrive settle arrival_rank commit_rank no_order moments_of clocks_of local_stamp final_stamp holds_back deliver latency_at latency_of
base_ones = refl

base_threes : latency_of base (in_fixed_order (replicate 8 3)) ≡ 12
unfolding base_with message packets_of delay_of arrive settle arrival_rank commit_rank no_order moments_of clocks_of local_stamp final_stamp holds_back deliver latency_at latency_of
base_threes = refl

swapped_threes : latency_of swapped (in_fixed_order (replicate 8 3)) ≡ 6
unfolding swapped message packets_of delay_of arrive settle arrival_rank commit_rank no_order moments_of clocks_of local_stamp final_stamp holds_back deliver latency_at latency_of
swapped_threes = refl

y_one_later : latency_of (base_with_y_at 7) (in_fixed_order (replicate 8 3)) ≡ 6
unfolding base_with message packets_of delay_of arrive settle arrival_rank commit_rank no_order moments_of clocks_of local_stamp final_stamp holds_back deliver latency_at latency_of
y_one_later = refl

y_one_earlier : latency_of (base_with_y_at 5) (in_fixed_order (replicate 8 3)) ≡ 11
unfolding base_with message packets_of delay_of arrive settle arrival_rank commit_rank no_order moments_of clocks_of local_stamp final_stamp holds_back deliver latency_at latency_of
y_one_earlier = refl

-- the base in which y is issued at tick 5, 6 or 7: its wait is the first of its places
abbrev waiting : Scenario
waiting =
    of_two Ticks 3 (message (codes "x") (Client 0) (1 ∷ []) 0 ∷ message (codes "t") (Client 0) (0 ∷ 1 ∷ []) 0
    ∷ record (message (codes "y") (Group 0) (0 ∷ 1 ∷ []) 5) { longest_wait = 2 } ∷ []) 1 0

waiting_packets : length (packets_of waiting) ≡ 9
unfolding message packets_of
waiting_packets = refl

waits_none : latency_of waiting (in_fixed_order (3 ∷ 3 ∷ 3 ∷ 3 ∷ 3 ∷ 0 ∷ 3 ∷ 3 ∷ 3 ∷ [])) ≡ 11
unfolding message packets_of delay_of arrive settle arrival_rank commit_rank no_order moments_of clocks_of local_stamp final_stamp holds_back deliver latency_at latency_of
waits_none = refl

waits_one : latency_of waiting (in_fixed_order (3 ∷ 3 ∷ 3 ∷ 3 ∷ 3 ∷ 1 ∷ 3 ∷ 3 ∷ 3 ∷ [])) ≡ 12
unfolding message packets_of delay_of arrive settle arrival_rank commit_rank no_order moments_of clocks_of local_stamp final_stamp holds_back deliver latency_at latency_of
waits_one = refl

waits_two : latency_of waiting (in_fixed_order (3 ∷ 3 ∷ 3 ∷ 3 ∷ 3 ∷ 2 ∷ 3 ∷ 3 ∷ 3 ∷ [])) ≡ 6
unfolding message packets_of delay_of arrive settle arrival_rank commit_rank no_order moments_of clocks_of local_stamp final_stamp holds_back deliver latency_at latency_of
waits_two = refl

-- lesser delays, and a far lesser latency
not_monotone : latency_of (base_with_y_at 5) (in_fixed_order (3 ∷ 3 ∷ 1 ∷ 3 ∷ 1 ∷ 3 ∷ 3 ∷ 3 ∷ [])) ≡ 3
unfolding base_with message packets_of delay_of arrive settle arrival_rank commit_rank no_order moments_of clocks_of local_stamp final_stamp holds_back deliver latency_at latency_of
not_monotone = refl

-- a greater delay of x, and a lesser latency
raced_early : latency_of (raced_in Ticks) (in_fixed_order (3 ∷ 3 ∷ 3 ∷ 3 ∷ 1 ∷ 3 ∷ 3 ∷ 3 ∷ [])) ≡ 11
unfolding raced_in message packets_of delay_of arrive settle arrival_rank commit_rank no_order moments_of clocks_of local_stamp final_stamp holds_back deliver latency_at latency_of
raced_early = refl

raced_together : latency_of (raced_in Ticks) (in_fixed_order (3 ∷ 3 ∷ 3 ∷ 3 ∷ 2 ∷ 3 ∷ 3 ∷ 3 ∷ [])) ≡ 6
unfolding raced_in message packets_of delay_of arrive settle arrival_rank commit_rank no_order moments_of clocks_of local_stamp final_stamp holds_back deliver latency_at latency_of
raced_together = refl

-- both arrive in one tick, the arrival of t being of a later rank
x_first : Schedule
x_first = record {
  delays = 3 ∷ 3 ∷ 3 ∷ 3 ∷ 2 ∷ 3 ∷ 3 ∷ 3 ∷ [];
  order = record { arrivals = slice_set (replicate 128 0) (place 0 1) 1; commits = replicate 128 0 };
}

-- in real time x may be first then, ..
raced_either : latency_of (raced_in Real) x_first ≡ 11
unfolding raced_in x_first message packets_of delay_of arrive settle arrival_rank commit_rank no_order moments_of clocks_of local_stamp final_stamp holds_back deliver latency_at latency_of
raced_either = refl

-- .. which whole ticks do not know
raced_fixed : latency_of (raced_in Ticks) x_first ≡ 6
unfolding raced_in x_first message packets_of delay_of arrive settle arrival_rank commit_rank no_order moments_of clocks_of local_stamp final_stamp holds_back deliver latency_at latency_of
raced_fixed = refl

raced_late : latency_of (raced_in Ticks) (in_fixed_order (replicate 8 3)) ≡ 6
unfolding raced_in message packets_of delay_of arrive settle arrival_rank commit_rank no_order moments_of clocks_of local_stamp final_stamp holds_back deliver latency_at latency_of
raced_late = refl

lone_to_itself : latency_of (lone (Group 0) (0 ∷ [])) (in_fixed_order []) ≡ 0
unfolding lone message packets_of delay_of arrive settle arrival_rank commit_rank no_order moments_of clocks_of local_stamp final_stamp holds_back deliver latency_at latency_of
lone_to_itself = refl

lone_from_client : latency_of (lone (Client 0) (0 ∷ [])) (in_fixed_order (5 ∷ [])) ≡ 5
unfolding lone message packets_of delay_of arrive settle arrival_rank commit_rank no_order moments_of clocks_of local_stamp final_stamp holds_back deliver latency_at latency_of
lone_from_client = refl

lone_to_two : latency_of (lone (Client 0) (0 ∷ 1 ∷ [])) (in_fixed_order (replicate 4 5)) ≡ 10
unfolding lone message packets_of delay_of arrive settle arrival_rank commit_rank no_order moments_of clocks_of local_stamp final_stamp holds_back deliver latency_at latency_of
lone_to_two = refl

raised_twice_packets : length (packets_of raised_twice) ≡ 15
unfolding raised_twice message packets_of
raised_twice_packets = refl

raised_twice_eleven : latency_of raised_twice (in_fixed_order (1 ∷ 3 ∷ 1 ∷ 1 ∷ 1 ∷ 1 ∷ 1 ∷ 1 ∷ 3 ∷ 3 ∷ 3 ∷ 3 ∷ 3 ∷ 3 ∷ 3 ∷ [])) ≡ 11
unfolding raised_twice message packets_of delay_of arrive settle arrival_rank commit_rank no_order moments_of clocks_of local_stamp final_stamp holds_back deliver latency_at latency_of
raised_twice_eleven = refl

raised_twice_threes : latency_of raised_twice (in_fixed_order (replicate 15 3)) ≡ 6
unfolding raised_twice message packets_of delay_of arrive settle arrival_rank commit_rank no_order moments_of clocks_of local_stamp final_stamp holds_back deliver latency_at latency_of
raised_twice_threes = refl

largest_packets : length (packets_of largest) ≡ 1024
unfolding largest message packets_of
largest_packets = refl
