-- Worked rows of the stamp bound, computed from the definitions alone.
use Rattle.std.proofs.Common.{◌≡◌, [], ◌∷◌, length, refl, codes}
use Rattle.convoy_scenario.specs.declared.sender.Sender.TheVariants.{Group}
use Rattle.convoy_draft.specs.declared.time.Time.TheVariants.{Ticks}
use Rattle.convoy_scenario.specs.Scenario.{Scenario}
use Rattle.convoy_packets.specs.Packets.{packets_of}
use Rattle.convoy_packets.specs.Assignment.{delay_of, ranges_of}
use Rattle.convoy_sim.specs.Times.{arrive, settle}
use Rattle.convoy_scenario.proofs.RowScenarios.{message, of_two, base_with, base, swapped, raised_twice}
use Rattle.convoy_intervals.specs.Boxes.{root_of}
use Rattle.convoy_intervals.specs.Bounds.{tables_of, plain_bound}
use Rattle.convoy_stamps.specs.Reach.{reach_of}
use Rattle.convoy_stamps.specs.StampBounds.{stamp_bound}

-- groups a, b and messages t, u, v, w, all to both. The other three surely arrive at b before w, whose stamp there is 4.b at least. There are four messages, but u and v may raise the clocks of a and b by turns: the reach of the stamp of t at a has six pairs, and w may hold t back
raised_by_turns : Scenario
raised_by_turns =
    of_two Ticks 3 (message (codes "t") (Group 1) (0 ∷ 1 ∷ []) 1 ∷ message (codes "u") (Group 1) (0 ∷ 1 ∷ []) 1
    ∷ message (codes "v") (Group 0) (0 ∷ 1 ∷ []) 0 ∷ message (codes "w") (Group 1) (0 ∷ 1 ∷ []) 4 ∷ []) 0 1

base_stamp : stamp_bound base (root_of base) ≡ 12
unfolding base_with message packets_of ranges_of delay_of arrive settle reach_of stamp_bound
base_stamp = refl

swapped_plain : plain_bound swapped (root_of swapped) ≡ 12
unfolding swapped message packets_of ranges_of delay_of arrive settle plain_bound
swapped_plain = refl

swapped_stamp : stamp_bound swapped (root_of swapped) ≡ 6
unfolding swapped message packets_of ranges_of delay_of arrive settle reach_of stamp_bound
swapped_stamp = refl

raised_twice_plain : plain_bound raised_twice (root_of raised_twice) ≡ 11
unfolding raised_twice message packets_of ranges_of delay_of arrive settle plain_bound
raised_twice_plain = refl

raised_twice_stamp : stamp_bound raised_twice (root_of raised_twice) ≡ 11
unfolding raised_twice message packets_of ranges_of delay_of arrive settle reach_of stamp_bound
raised_twice_stamp = refl

raised_by_turns_stamp : stamp_bound raised_by_turns (root_of raised_by_turns) ≡ 9
unfolding raised_by_turns message packets_of ranges_of delay_of arrive settle reach_of stamp_bound
raised_by_turns_stamp = refl

-- the reach of the stamp of t at a has more pairs than there are messages
raised_by_turns_reach : length (reach_of raised_by_turns (tables_of raised_by_turns (root_of raised_by_turns)) 0 0) ≡ 6
unfolding raised_by_turns message packets_of ranges_of delay_of arrive settle reach_of
raised_by_turns_reach = refl
