-- Worked rows, computed from the definitions alone.
use Rattle.std.proofs.Common.{◌≡◌, [], ◌∷◌, ◌++◌, replicate, Some, refl, codes}
use Rattle.std.specs.Fmt.{digits}
use Rattle.convoy_scenario.specs.declared.sender.Sender.TheVariants.{Client, Group}
use Rattle.convoy_draft.specs.declared.time.Time.TheVariants.{Ticks}
use Rattle.convoy_scenario.specs.Scenario.{Scenario}
use Rattle.convoy_packets.specs.Packets.{packets_of}
use Rattle.convoy_packets.specs.Assignment.{delay_of, in_fixed_order}
use Rattle.convoy_packets.specs.Order.{no_order}
use Rattle.convoy_sim.specs.Times.{arrive, settle}
use Rattle.convoy_sim.specs.Moments.{arrival_rank, commit_rank, moments_of}
use Rattle.convoy_sim.specs.Stamps.{clocks_of, local_stamp, final_stamp}
use Rattle.convoy_sim.specs.Delivery.{holds_back, deliver}
use Rattle.convoy_scenario.proofs.RowScenarios.{message, of_two, base_with, base}
use Rattle.convoy_timeline.specs.Timeline.{issue_line, line_of, timeline_text}

-- the base with every packet's delay one tick
base_ones : timeline_text base (in_fixed_order (replicate 8 1)) ≡
    codes "1 b propose x 1.b" ++ 10 ∷ (codes "1 a propose t 1.a" ++ 10 ∷ (codes "1 b propose t 2.b" ++ 10 ∷
    (codes "1 b commit x 1.b" ++ 10 ∷ (codes "1 b deliver x 1.b" ++ 10 ∷ (codes "2 a commit t 2.b" ++ 10 ∷
    (codes "2 b commit t 2.b" ++ 10 ∷ (codes "2 a deliver t 2.b" ++ 10 ∷ (codes "2 b deliver t 2.b" ++ 10 ∷
    (codes "6 a propose y 3.a" ++ 10 ∷ (codes "7 b propose y 3.b" ++ 10 ∷ (codes "7 b commit y 3.b" ++ 10 ∷
    (codes "7 b deliver y 3.b" ++ 10 ∷ (codes "8 a commit y 3.b" ++ 10 ∷ (codes "8 a deliver y 3.b" ++ 10 ∷ []))))))))))))))
unfolding base_with message packets_of delay_of arrive settle arrival_rank commit_rank no_order moments_of clocks_of local_stamp final_stamp holds_back deliver digits issue_line line_of timeline_text
base_ones = refl

-- the same where a tick lasts 50 microseconds: a line more
timed_ones : timeline_text (record base { tick = Some 50_000 }) (in_fixed_order (replicate 8 1)) ≡ codes "tick 50 us" ++ 10 ∷ timeline_text base (in_fixed_order (replicate 8 1))
unfolding base_with message packets_of delay_of arrive settle arrival_rank commit_rank no_order moments_of clocks_of local_stamp final_stamp holds_back deliver digits issue_line line_of timeline_text
timed_ones = refl

-- t waits at a for y, and the two are delivered there in one tick, in the order of their final stamps
held_back : Scenario
held_back =
    of_two Ticks 1 (message (codes "x") (Client 0) (1 ∷ []) 0 ∷ message (codes "y") (Group 0) (0 ∷ 1 ∷ []) 2
    ∷ message (codes "t") (Client 0) (0 ∷ 1 ∷ []) 0 ∷ []) 2 0

held_back_ones : timeline_text held_back (in_fixed_order (replicate 8 1)) ≡
    codes "1 b propose x 1.b" ++ 10 ∷ (codes "1 a propose t 1.a" ++ 10 ∷ (codes "1 b propose t 2.b" ++ 10 ∷
    (codes "1 b commit x 1.b" ++ 10 ∷ (codes "1 b deliver x 1.b" ++ 10 ∷ (codes "2 a propose y 2.a" ++ 10 ∷
    (codes "2 a commit t 2.b" ++ 10 ∷ (codes "2 b commit t 2.b" ++ 10 ∷ (codes "2 b deliver t 2.b" ++ 10 ∷
    (codes "3 b propose y 3.b" ++ 10 ∷ (codes "3 b commit y 3.b" ++ 10 ∷ (codes "3 b deliver y 3.b" ++ 10 ∷
    (codes "4 a commit y 3.b" ++ 10 ∷ (codes "4 a deliver t 2.b" ++ 10 ∷ (codes "4 a deliver y 3.b" ++ 10 ∷ []))))))))))))))
unfolding held_back message packets_of delay_of arrive settle arrival_rank commit_rank no_order moments_of clocks_of local_stamp final_stamp holds_back deliver digits issue_line line_of timeline_text
held_back_ones = refl

-- y may be issued from tick 4 on, and is at tick 6, and z from tick 0 on, and is at tick 1, before what happens then
waiting : Scenario
waiting =
    of_two Ticks 1 (message (codes "t") (Client 0) (0 ∷ 1 ∷ []) 0
    ∷ record (message (codes "y") (Group 0) (0 ∷ 1 ∷ []) 4) { longest_wait = 3 }
    ∷ record (message (codes "z") (Client 0) (1 ∷ []) 0) { longest_wait = 9 } ∷ []) 0 0

waits : timeline_text waiting (in_fixed_order (1 ∷ 1 ∷ 1 ∷ 1 ∷ 2 ∷ 1 ∷ 1 ∷ 1 ∷ 1 ∷ 1 ∷ [])) ≡
    codes "1 client issue z" ++ 10 ∷ (codes "1 a propose t 1.a" ++ 10 ∷ (codes "1 b propose t 1.b" ++ 10 ∷
    (codes "2 b propose z 2.b" ++ 10 ∷ (codes "2 a commit t 1.b" ++ 10 ∷ (codes "2 b commit t 1.b" ++ 10 ∷
    (codes "2 b commit z 2.b" ++ 10 ∷ (codes "2 a deliver t 1.b" ++ 10 ∷ (codes "2 b deliver t 1.b" ++ 10 ∷
    (codes "2 b deliver z 2.b" ++ 10 ∷ (codes "6 a issue y" ++ 10 ∷ (codes "6 a propose y 2.a" ++ 10 ∷
    (codes "7 b propose y 3.b" ++ 10 ∷ (codes "7 b commit y 3.b" ++ 10 ∷ (codes "7 b deliver y 3.b" ++ 10 ∷
    (codes "8 a commit y 3.b" ++ 10 ∷ (codes "8 a deliver y 3.b" ++ 10 ∷ []))))))))))))))))
unfolding waiting message packets_of delay_of arrive settle arrival_rank commit_rank no_order moments_of clocks_of local_stamp final_stamp holds_back deliver digits issue_line line_of timeline_text
waits = refl

-- two messages are issued in one tick: by their numbers, though the later one may be issued sooner
waits_in_one_tick : timeline_text waiting (in_fixed_order (1 ∷ 1 ∷ 1 ∷ 1 ∷ 2 ∷ 1 ∷ 1 ∷ 1 ∷ 6 ∷ 1 ∷ [])) ≡
    codes "1 a propose t 1.a" ++ 10 ∷ (codes "1 b propose t 1.b" ++ 10 ∷ (codes "2 a commit t 1.b" ++ 10 ∷
    (codes "2 b commit t 1.b" ++ 10 ∷ (codes "2 a deliver t 1.b" ++ 10 ∷ (codes "2 b deliver t 1.b" ++ 10 ∷
    (codes "6 a issue y" ++ 10 ∷ (codes "6 client issue z" ++ 10 ∷ (codes "6 a propose y 2.a" ++ 10 ∷
    (codes "7 b propose y 2.b" ++ 10 ∷ (codes "7 b propose z 3.b" ++ 10 ∷ (codes "7 b commit y 2.b" ++ 10 ∷
    (codes "7 b commit z 3.b" ++ 10 ∷ (codes "7 b deliver y 2.b" ++ 10 ∷ (codes "7 b deliver z 3.b" ++ 10 ∷
    (codes "8 a commit y 2.b" ++ 10 ∷ (codes "8 a deliver y 2.b" ++ 10 ∷ []))))))))))))))))
unfolding waiting message packets_of delay_of arrive settle arrival_rank commit_rank no_order moments_of clocks_of local_stamp final_stamp holds_back deliver digits issue_line line_of timeline_text
waits_in_one_tick = refl
