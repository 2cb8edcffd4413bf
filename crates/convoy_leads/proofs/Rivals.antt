-- Rivals of the target are messages of the scenario.
use Rattle.std.proofs.Common.{◌≡◌, ℕ, ◌<◌, List, nat_le, length, get_or, All, sym, subst}
use Rattle.std.proofs.lemmas.List.Elements.{Contains-get_or}
use Rattle.convoy_scenario.specs.Scenario.{Scenario}
use Rattle.convoy_sim.specs.Delivery.{addressed_to}
use Rattle.convoy_sim.proofs.Membership.{in_of_contains, in_of_filter}
use Rattle.convoy_sim.proofs.Addressed.{goes_of_addressed, number_of_goes}
use Rattle.convoy_intervals.specs.Bounds.{Tables, rivals}

rivals_are_messages : (scenario : Scenario) (tables : Tables) → All (λ n. n < length scenario.multicasts) (rivals scenario tables)
rivals_are_messages scenario tables k d l =
    let g = scenario.target_group in
    let n = get_or (rivals scenario tables) k d in
    let test = λ (m : ℕ). nat_le (tables.least_arrival m g) (tables.greatest_settling scenario.target_message g) in
    let i = in_of_contains n (rivals scenario tables) (Contains-get_or (rivals scenario tables) k d l) in
    number_of_goes scenario n g (goes_of_addressed scenario n g (in_of_filter test n (addressed_to scenario g) i).0)

pub rival_known : (scenario : Scenario) (tables : Tables) (numbers : List ℕ) (k : ℕ) → numbers ≡ rivals scenario tables → k < length numbers
    → get_or numbers k 0 < length scenario.multicasts
rival_known scenario tables numbers k is l =
    subst (λ (xs : List ℕ). get_or xs k 0 < length scenario.multicasts) (sym is)
    (rivals_are_messages scenario tables k 0 (subst (λ (xs : List ℕ). k < length xs) is l))
