-- Each of a message's destinations is one to which it goes; and no message is issued past the limit.
use Rattle.std.proofs.Common.{◌≡◌, ℕ, ◌<◌, ◌≤◌, List, length, get_or, All, sym, subst}
use Rattle.std.proofs.lemmas.List.Elements.{Contains-get_or}
use Rattle.convoy_scenario.specs.Scenario.{Scenario, GoesTo, message_at}
use Rattle.convoy_scenario.specs.WellFormed.{IsScenario}
use Rattle.convoy_packets.specs.Assignment.{Schedule, IsAssignment}
use Rattle.convoy_sim.specs.Times.{issue}
use Rattle.convoy_sim.proofs.Destinations as Destinations
use Rattle.convoy_sim.proofs.Membership.{in_of_contains}
use Rattle.convoy_sim.proofs.Addressed.{goes_from_in}

pub all_reached : (plan : Scenario) (m : ℕ) (groups : List ℕ) → groups ≡ (message_at plan m).destinations → All (GoesTo plan m) groups
all_reached plan m groups is =
    subst (All (GoesTo plan m)) (sym is) (λ k d l.
    let there = (message_at plan m).destinations in
    goes_from_in plan m (get_or there k d) (in_of_contains (get_or there k d) there (Contains-get_or there k d l)))

pub issued_soon : (plan : Scenario) → IsScenario plan → (schedule : Schedule) → IsAssignment plan schedule → (m : ℕ) → m < length plan.multicasts
    → issue plan schedule m ≤ 1065535
issued_soon = Destinations.issued_soon
