-- How many stages a scenario has.
use Rattle.std.specs.Prelude.{◌≡◌, ℕ, ◌+◌, ◌*◌, ◌≤◌, zero, suc, Bool, true, false, if◌then◌else◌, [], ◌∷◌, ◌++◌, length}
use Rattle.std.specs.List.{flat_map, range_with_len}
use Rattle.std.proofs.Common.{arith, length-append}
use Rattle.convoy_packets.specs.OrderLists.{has_moments}
use Rattle.convoy_packets.specs.declared.table_places.TheConstants.{PLACES}
use Rattle.convoy_scenario.specs.Scenario.{Scenario}
use Rattle.convoy_regions.specs.declared.stage.Stage.{Stage}
use Rattle.convoy_regions.specs.Stages.{stages_in, stages_of}

two_at_most : (has : Bool) (a b : Stage) → length (if has then a ∷ b ∷ [] else []) ≤ 2
two_at_most true a b = omega arith
two_at_most false a b = omega arith

here_few : (plan : Scenario) (at : ℕ) → length (stages_in plan at) ≤ 2
here_few plan at = two_at_most (has_moments plan at) _ _

stages_from : (plan : Scenario) (start n : ℕ) → length (flat_map (stages_in plan) (range_with_len start n)) ≤ 2 * n
stages_from plan start zero = omega arith
stages_from plan start (suc n) =
    omega (arith, length-append (stages_in plan start) (flat_map (stages_in plan) (range_with_len (start + 1) n)), here_few plan start, stages_from plan (start + 1) n)

pub stages_few : (plan : Scenario) → length (stages_of plan) ≤ 2 * PLACES
unfolding stages_of
stages_few plan = stages_from plan 0 PLACES
