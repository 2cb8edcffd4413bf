-- The pairs of a scenario, by membership in its list of them.
use Rattle.std.proofs.Common.{◌≡◌, true, ◌==◌, map, get_or, All, refl, ap₂, subst}
use Rattle.std.proofs.lemmas.List.Elements.{Contains-get_or}
use Rattle.std.proofs.lemmas.Bool.{and_from, and_parts, eq-eqb, eqb-true}
use Rattle.convoy_scenario.specs.Scenario.{Scenario, message_at, message_numbers}
use Rattle.convoy_sim.proofs.Membership.{IsIn, in_of_contains, in-flat_map, in_of_flat_map, in-map, in_of_map}
use Rattle.convoy_sim.proofs.Addressed.{in_of_goes, goes_from_in, in-numbers}
use Rattle.convoy_stamps.specs.declared.pair.Pair.{Pair}
use Rattle.convoy_stamps.specs.Reach.{pair_of, IsPair, pairs_of, is_same}

pub in-pairs : (scenario : Scenario) (pair : Pair) → IsPair scenario pair → IsIn pair (pairs_of scenario)
in-pairs scenario pair goes =
    in-flat_map (λ n. map (pair_of n) (message_at scenario n).destinations) pair.message pair (message_numbers scenario)
    (in-numbers scenario pair.message pair.group goes)
    (in-map (pair_of pair.message) pair.group (message_at scenario pair.message).destinations (in_of_goes scenario pair.message pair.group goes))

pub goes_of_pair : (scenario : Scenario) (pair : Pair) → IsIn pair (pairs_of scenario) → IsPair scenario pair
goes_of_pair scenario pair i =
    let r = in_of_flat_map (λ n. map (pair_of n) (message_at scenario n).destinations) pair (message_numbers scenario) i in
    let q = in_of_map (pair_of r.0) pair (message_at scenario r.0).destinations r.2 in
    subst (IsPair scenario) q.2 (goes_from_in scenario r.0 q.0 q.1)

pub pair_itself : (pair : Pair) → is_same pair pair ≡ true
pair_itself pair =
    and_from (pair.message == pair.message) (pair.group == pair.group) (eq-eqb pair.message pair.message refl) (eq-eqb pair.group pair.group refl)

pub same_pair : (a b : Pair) → is_same a b ≡ true → a ≡ b
same_pair a b h =
    let r = and_parts (a.message == b.message) (a.group == b.group) h in
    ap₂ pair_of (eqb-true a.message b.message r.0) (eqb-true a.group b.group r.1)

-- each of the pairs of a scenario is one
pub All-pairs : (scenario : Scenario) → All (IsPair scenario) (pairs_of scenario)
All-pairs scenario k d l =
    goes_of_pair scenario (get_or (pairs_of scenario) k d)
    (in_of_contains (get_or (pairs_of scenario) k d) (pairs_of scenario) (Contains-get_or (pairs_of scenario) k d l))
