-- Worked rows of bounds, computed from the definitions alone.
use Rattle.std.proofs.Common.{◌≡◌, [], ◌∷◌, map, replicate, refl}
use Rattle.convoy_packets.specs.Packets.{packets_of}
use Rattle.convoy_packets.specs.Assignment.{delay_of, ranges_of}
use Rattle.convoy_sim.specs.Times.{arrive, settle}
use Rattle.convoy_scenario.proofs.RowScenarios.{message, base_with, base_with_y_at, swapped}
use Rattle.convoy_intervals.specs.Boxes.{root_of, lower_half, upper_half}
use Rattle.convoy_intervals.specs.Bounds.{plain_bound}

-- the base, and halves of it at two of its packets
base_bounds :
    (let root = root_of (base_with_y_at 6) in
    map (plain_bound (base_with_y_at 6)) (root ∷ lower_half root 4 1 ∷ upper_half root 4 1 ∷ lower_half root 4 2 ∷ lower_half root 7 1 ∷ upper_half root 7 1 ∷ []))
    ≡ 12 ∷ 4 ∷ 12 ∷ 5 ∷ 10 ∷ 12 ∷ []
unfolding base_with message packets_of ranges_of delay_of arrive settle plain_bound
base_bounds = refl

-- the base with y issued at each of these ticks
bounds_by_y : map (λ at. plain_bound (base_with_y_at at) (root_of (base_with_y_at at))) (5 ∷ 6 ∷ 7 ∷ []) ≡ 11 ∷ 12 ∷ 6 ∷ []
unfolding base_with message packets_of ranges_of delay_of arrive settle plain_bound
bounds_by_y = refl

swapped_point : plain_bound swapped (replicate 8 (3, 3)) ≡ 12
unfolding swapped message packets_of ranges_of delay_of arrive settle plain_bound
swapped_point = refl
