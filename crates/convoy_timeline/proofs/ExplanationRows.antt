-- Worked rows, computed from the definitions alone.
use Rattle.std.proofs.Common.{◌≡◌, [], ◌∷◌, ◌++◌, replicate, slice_set, None, Some, refl, codes, false}
use Rattle.std.specs.Fmt.{digits}
use Rattle.convoy_scenario.specs.declared.sender.Sender.TheVariants.{Client, Group}
use Rattle.convoy_draft.specs.declared.duration.TimeUnit.TheVariants.{Microseconds}
use Rattle.convoy_draft.specs.declared.time.Time.TheVariants.{Ticks}
use Rattle.convoy_scenario.specs.Scenario.{Scenario}
use Rattle.convoy_packets.specs.Packets.{packets_of}
use Rattle.convoy_packets.specs.Assignment.{delay_of, in_fixed_order}
use Rattle.convoy_packets.specs.Order.{no_order}
use Rattle.convoy_packets.specs.declared.table_places.TheConstants.{PLACES}
use Rattle.convoy_sim.specs.Times.{arrive, settle}
use Rattle.convoy_sim.specs.Moments.{arrival_rank, commit_rank, moments_of}
use Rattle.convoy_sim.specs.Stamps.{clocks_of, local_stamp, final_stamp}
use Rattle.convoy_sim.specs.Delivery.{holds_back, deliver, latency_at, latency_of}
use Rattle.convoy_scenario.proofs.RowScenarios.{message, of_two, base_with, base, swapped, tied}
use Rattle.convoy_timeline.specs.Causes.{holder_of, tied_before, last_proposer, explanation_of, moments_stamped, stamp_explained}
use Rattle.convoy_timeline.specs.Explanations.{answered_text, awaited_text, commit_text, flight_text, holder_text, in_unit_text, issue_text, last_text, latency_text, rise_line, sender_text, sent_text, stamp_text, text_of, ticks_text, window_text, way_text, with_stamp_text, worst_text}
use Rattle.convoy_times.specs.Measures.{told_ticks, fraction, fraction_digits}
use Rattle.convoy_timeline.specs.PacketLists.{packet_line, packet_text, packets_text, scheduled_packets_text, taken_text}

-- the base with every packet's delay three ticks, where y holds t back
base_threes : text_of None base (explanation_of base (in_fixed_order (replicate 8 3))) (stamp_explained base (in_fixed_order (replicate 8 3))) 1 ≡
    codes "t at a: at worst 12 ticks, from its issue at tick 0 to its delivery at tick 12" ++ 10 ∷ (
    codes "committed at a at tick 6 with stamp 2.b, given by b at tick 3, after x in a tie" ++ 10 ∷ (
    codes "  tick 3   x comes to b, whose clock rises to 1" ++ 10 ∷ (
    codes "held back by y, which came to a at tick 6 with stamp 2.a, before 2.b" ++ 10 ∷ (
    codes "y is committed at a at tick 12, when the last proposal comes:" ++ 10 ∷ (
    codes "  tick 6   a sends y to b, packet 5, 3 ticks" ++ 10 ∷ (
    codes "  tick 9   b proposes 3.b to a, packet 7, 3 ticks" ++ 10 ∷ (
    codes "no schedule is worse: 1 node, checked" ++ 10 ∷ ([]))))))))
unfolding base_with message packets_of delay_of arrive settle arrival_rank commit_rank no_order moments_of clocks_of local_stamp final_stamp holds_back deliver latency_at latency_of digits holder_of tied_before last_proposer explanation_of moments_stamped stamp_explained stamp_text flight_text in_unit_text ticks_text latency_text commit_text rise_line with_stamp_text holder_text awaited_text sent_text answered_text way_text worst_text last_text text_of
base_threes = refl

swapped_threes : text_of None swapped (explanation_of swapped (in_fixed_order (replicate 8 3))) (stamp_explained swapped (in_fixed_order (replicate 8 3))) 1_469 ≡
    codes "t at a: at worst 6 ticks, from its issue at tick 0 to its delivery at tick 6" ++ 10 ∷ (
    codes "committed at a at tick 6 with stamp 2.b, given by b at tick 3, after x in a tie" ++ 10 ∷ (
    codes "  tick 3   x comes to b, whose clock rises to 1" ++ 10 ∷ (
    codes "no message holds it back: it is delivered as it is committed" ++ 10 ∷ (
    codes "t is committed at a at tick 6, when the last proposal comes:" ++ 10 ∷ (
    codes "  tick 0   a client sends t to b, packet 1, 3 ticks" ++ 10 ∷ (
    codes "  tick 3   b proposes 2.b to a, packet 3, 3 ticks" ++ 10 ∷ (
    codes "no schedule is worse: 1469 nodes, checked" ++ 10 ∷ ([]))))))))
unfolding swapped message packets_of delay_of arrive settle arrival_rank commit_rank no_order moments_of clocks_of local_stamp final_stamp holds_back deliver latency_at latency_of digits holder_of tied_before last_proposer explanation_of moments_stamped stamp_explained stamp_text flight_text in_unit_text ticks_text latency_text commit_text rise_line with_stamp_text holder_text awaited_text sent_text answered_text way_text worst_text last_text text_of
swapped_threes = refl

-- a message that goes to its sender alone, late in the run
lone : Scenario
lone = record (of_two Ticks 5 (message (codes "m") (Group 0) (0 ∷ []) 120 ∷ []) 0 0) { groups = codes "a" ∷ [] }

lone_none : text_of None lone (explanation_of lone (in_fixed_order [])) (stamp_explained lone (in_fixed_order [])) 1 ≡
    codes "m at a: at worst 0 ticks, from its issue at tick 120 to its delivery at tick 120" ++ 10 ∷ (
    codes "committed at a at tick 120 with stamp 1.a, given by a at tick 120" ++ 10 ∷ (
    codes "no message holds it back: it is delivered as it is committed" ++ 10 ∷ (
    codes "m is committed at a at tick 120, when the last proposal comes:" ++ 10 ∷ (
    codes "  tick 120 a issues m" ++ 10 ∷ (
    codes "  tick 120 a proposes 1.a itself" ++ 10 ∷ (
    codes "no schedule is worse: 1 node, checked" ++ 10 ∷ ([])))))))
unfolding lone message packets_of delay_of arrive settle arrival_rank commit_rank no_order moments_of clocks_of local_stamp final_stamp holds_back deliver latency_at latency_of digits holder_of tied_before last_proposer explanation_of moments_stamped stamp_explained stamp_text flight_text in_unit_text ticks_text latency_text commit_text rise_line with_stamp_text holder_text awaited_text sent_text answered_text way_text worst_text last_text text_of
lone_none = refl

-- a message that comes to a last, so that the last proposal is that of a itself
late : Scenario
late = of_two Ticks 3 (message (codes "t") (Client 0) (0 ∷ 1 ∷ []) 9 ∷ []) 0 0

late_own : text_of None late (explanation_of late (in_fixed_order (3 ∷ 1 ∷ 1 ∷ 1 ∷ []))) (stamp_explained late (in_fixed_order (3 ∷ 1 ∷ 1 ∷ 1 ∷ []))) 2 ≡
    codes "t at a: at worst 3 ticks, from its issue at tick 9 to its delivery at tick 12" ++ 10 ∷ (
    codes "committed at a at tick 12 with stamp 1.b, given by b at tick 10" ++ 10 ∷ (
    codes "no message holds it back: it is delivered as it is committed" ++ 10 ∷ (
    codes "t is committed at a at tick 12, when the last proposal comes:" ++ 10 ∷ (
    codes "  tick 9   a client sends t to a, packet 0, 3 ticks" ++ 10 ∷ (
    codes "  tick 12  a proposes 1.a itself" ++ 10 ∷ (
    codes "no schedule is worse: 2 nodes, checked" ++ 10 ∷ ([])))))))
unfolding late message packets_of delay_of arrive settle arrival_rank commit_rank no_order moments_of clocks_of local_stamp final_stamp holds_back deliver latency_at latency_of digits holder_of tied_before last_proposer explanation_of moments_stamped stamp_explained stamp_text flight_text in_unit_text ticks_text latency_text commit_text rise_line with_stamp_text holder_text awaited_text sent_text answered_text way_text worst_text last_text text_of
late_own = refl

-- the commit of u at a raises the clock there past the stamp that u got as it came
raised : Scenario
raised =
    of_two Ticks 3 (message (codes "x") (Client 0) (1 ∷ []) 0 ∷ message (codes "u") (Client 0) (0 ∷ 1 ∷ []) 0
    ∷ message (codes "t") (Client 0) (0 ∷ []) 8 ∷ []) 2 0

raised_twos : text_of None raised (explanation_of raised (in_fixed_order (replicate 6 2))) (stamp_explained raised (in_fixed_order (replicate 6 2))) 1 ≡
    codes "t at a: at worst 2 ticks, from its issue at tick 8 to its delivery at tick 10" ++ 10 ∷ (
    codes "committed at a at tick 10 with stamp 3.a, given by a at tick 10" ++ 10 ∷ (
    codes "  tick 4   u is committed at a, whose clock rises to 2, with stamp 2.b, given by b at tick 2" ++ 10 ∷ (
    codes "  tick 2   x comes to b, whose clock rises to 1" ++ 10 ∷ (
    codes "no message holds it back: it is delivered as it is committed" ++ 10 ∷ (
    codes "t is committed at a at tick 10, when the last proposal comes:" ++ 10 ∷ (
    codes "  tick 8   a client sends t to a, packet 5, 2 ticks" ++ 10 ∷ (
    codes "  tick 10  a proposes 3.a itself" ++ 10 ∷ (
    codes "no schedule is worse: 1 node, checked" ++ 10 ∷ ([])))))))))
unfolding raised message packets_of delay_of arrive settle arrival_rank commit_rank no_order moments_of clocks_of local_stamp final_stamp holds_back deliver latency_at latency_of digits holder_of tied_before last_proposer explanation_of moments_stamped stamp_explained stamp_text flight_text in_unit_text ticks_text latency_text commit_text rise_line with_stamp_text holder_text awaited_text sent_text answered_text way_text worst_text last_text text_of
raised_twos = refl

-- in real time, in ticks of 50 microseconds: t comes to b after x, and y to a before t is committed there, both by the order of a tie
timed : Scenario
timed = record tied { tick = Some 50_000 }

timed_ones : text_of (Some (record { tick = 50_000; unit = Microseconds })) timed (explanation_of timed (record { delays = replicate 8 1; order = record { arrivals = slice_set (replicate PLACES 0) 1 1; commits = replicate PLACES 0 } })) (stamp_explained timed (record { delays = replicate 8 1; order = record { arrivals = slice_set (replicate PLACES 0) 1 1; commits = replicate PLACES 0 } })) 1 ≡
    codes "t at a: at worst 4 ticks (200 us), from its issue at tick 0 to its delivery at tick 4" ++ 10 ∷ (
    codes "committed at a at tick 2 with stamp 2.b, given by b at tick 1, after x in a tie" ++ 10 ∷ (
    codes "  tick 1   x comes to b, whose clock rises to 1" ++ 10 ∷ (
    codes "held back by y, which came to a at tick 2 with stamp 2.a, before 2.b, and before that commit in a tie" ++ 10 ∷ (
    codes "y is committed at a at tick 4, when the last proposal comes:" ++ 10 ∷ (
    codes "  tick 2   a sends y to b, packet 5, 1 tick" ++ 10 ∷ (
    codes "  tick 3   b proposes 3.b to a, packet 7, 1 tick" ++ 10 ∷ (
    codes "no schedule is worse: 1 node, checked" ++ 10 ∷ ([]))))))))
unfolding timed told_ticks fraction fraction_digits tied message packets_of delay_of arrive settle arrival_rank commit_rank no_order moments_of clocks_of local_stamp final_stamp holds_back deliver latency_at latency_of digits holder_of tied_before last_proposer explanation_of moments_stamped stamp_explained stamp_text flight_text in_unit_text ticks_text latency_text commit_text rise_line with_stamp_text holder_text awaited_text sent_text answered_text way_text worst_text last_text text_of
timed_ones = refl

-- y may wait up to eight ticks, and holds t back where it is issued at tick 6
waiting : Scenario
waiting =
    of_two Ticks 3 (message (codes "x") (Client 0) (1 ∷ []) 0 ∷ message (codes "t") (Client 0) (0 ∷ 1 ∷ []) 0
    ∷ record (message (codes "y") (Group 0) (0 ∷ 1 ∷ []) 2) { longest_wait = 8 } ∷ []) 1 0

waits_four : text_of None waiting (explanation_of waiting (in_fixed_order (3 ∷ 3 ∷ 3 ∷ 3 ∷ 3 ∷ 4 ∷ 3 ∷ 3 ∷ 3 ∷ []))) (stamp_explained waiting (in_fixed_order (3 ∷ 3 ∷ 3 ∷ 3 ∷ 3 ∷ 4 ∷ 3 ∷ 3 ∷ 3 ∷ []))) 1 ≡
    codes "t at a: at worst 12 ticks, from its issue at tick 0 to its delivery at tick 12" ++ 10 ∷ (
    codes "committed at a at tick 6 with stamp 2.b, given by b at tick 3, after x in a tie" ++ 10 ∷ (
    codes "  tick 3   x comes to b, whose clock rises to 1" ++ 10 ∷ (
    codes "held back by y, which came to a at tick 6 with stamp 2.a, before 2.b" ++ 10 ∷ (
    codes "y may be issued from tick 2 to 10: here a issues it at tick 6" ++ 10 ∷ (
    codes "y is committed at a at tick 12, when the last proposal comes:" ++ 10 ∷ (
    codes "  tick 6   a sends y to b, packet 6, 3 ticks" ++ 10 ∷ (
    codes "  tick 9   b proposes 3.b to a, packet 8, 3 ticks" ++ 10 ∷ (
    codes "no schedule is worse: 1 node, checked" ++ 10 ∷ ([])))))))))
unfolding waiting message packets_of delay_of arrive settle arrival_rank commit_rank no_order moments_of clocks_of local_stamp final_stamp holds_back deliver latency_at latency_of digits holder_of tied_before last_proposer explanation_of moments_stamped stamp_explained stamp_text flight_text in_unit_text ticks_text latency_text commit_text rise_line with_stamp_text holder_text window_text issue_text awaited_text sent_text answered_text way_text worst_text last_text text_of
waits_four = refl

-- ---- packets
base_packets : packets_text base ≡
    codes "packet 0: x from client to b, 1 to 3 ticks" ++ 10 ∷ (
    codes "packet 1: t from client to a, 1 to 3 ticks" ++ 10 ∷ (
    codes "packet 2: t from client to b, 1 to 3 ticks" ++ 10 ∷ (
    codes "packet 3: proposal of t from a to b, 1 to 3 ticks" ++ 10 ∷ (
    codes "packet 4: proposal of t from b to a, 1 to 3 ticks" ++ 10 ∷ (
    codes "packet 5: y from a to b, 1 to 3 ticks" ++ 10 ∷ (
    codes "packet 6: proposal of y from a to b, 1 to 3 ticks" ++ 10 ∷ (
    codes "packet 7: proposal of y from b to a, 1 to 3 ticks" ++ 10 ∷ ([]))))))))
unfolding base_with message packets_of digits packet_line packet_text packets_text taken_text
base_packets = refl

-- the message with a link from b to a of one tick, under a schedule
linked : Scenario
linked = record late { links = record { sender = Group 1; to = 0; least = 1; most = 1; stamps = false } ∷ [] }

linked_packets : scheduled_packets_text linked (in_fixed_order (3 ∷ 2 ∷ 1 ∷ 1 ∷ [])) ≡
    codes "packet 0: t from client to a, 1 to 3 ticks, takes 3" ++ 10 ∷ (
    codes "packet 1: t from client to b, 1 to 3 ticks, takes 2" ++ 10 ∷ (
    codes "packet 2: proposal of t from a to b, 1 to 3 ticks, takes 1" ++ 10 ∷ (
    codes "packet 3: proposal of t from b to a, 1 to 1 ticks, takes 1" ++ 10 ∷ ([]))))
unfolding linked late message packets_of digits packet_line packet_text scheduled_packets_text taken_text
linked_packets = refl

waiting_packets : scheduled_packets_text waiting (in_fixed_order (3 ∷ 3 ∷ 3 ∷ 3 ∷ 3 ∷ 4 ∷ 3 ∷ 3 ∷ 3 ∷ [])) ≡
    codes "packet 0: x from client to b, 1 to 3 ticks, takes 3" ++ 10 ∷ (
    codes "packet 1: t from client to a, 1 to 3 ticks, takes 3" ++ 10 ∷ (
    codes "packet 2: t from client to b, 1 to 3 ticks, takes 3" ++ 10 ∷ (
    codes "packet 3: proposal of t from a to b, 1 to 3 ticks, takes 3" ++ 10 ∷ (
    codes "packet 4: proposal of t from b to a, 1 to 3 ticks, takes 3" ++ 10 ∷ (
    codes "packet 5: y waits, 0 to 8 ticks, takes 4" ++ 10 ∷ (
    codes "packet 6: y from a to b, 1 to 3 ticks, takes 3" ++ 10 ∷ (
    codes "packet 7: proposal of y from a to b, 1 to 3 ticks, takes 3" ++ 10 ∷ (
    codes "packet 8: proposal of y from b to a, 1 to 3 ticks, takes 3" ++ 10 ∷ ([])))))))))
unfolding waiting message packets_of digits packet_line packet_text scheduled_packets_text taken_text
waiting_packets = refl

-- a client at a place, and one at none that has a name
at_place : sender_text (record linked { places = codes "eu" ∷ codes "us" ∷ [] }) (Client 2) ≡ codes "a client at us"
at_place = refl

at_none : sender_text linked (Client 0) ≡ codes "a client"
at_none = refl
