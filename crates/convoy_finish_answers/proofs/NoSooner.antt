-- Where replicas have to answer, no run delivers its target sooner than without them.
use Rattle.std.proofs.Common.{◌≡◌, ◌+◌, ◌≤◌, ℕ, max, ◌∷◌, List, map, sym, subst, arith}
use Rattle.convoy_scenario.specs.Scenario.{Scenario, message_at}
use Rattle.convoy_scenario.specs.WellFormed.{IsScenario}
use Rattle.convoy_packets.specs.Assignment.{Schedule}
use Rattle.convoy_sim.specs.Delivery.{deliver, last_commit, latency_at, latency_of}
use Rattle.convoy_sim.specs.ProtocolLaws.{DeliveryLaw, ahead_of}
use Rattle.convoy_sim.specs.Times.{arrive, greatest, settle}
use Rattle.convoy_sim.proofs.Membership.{greatest_most, in_greatest}
use Rattle.convoy_finishes.specs.Finishes.{finish_by, finish_latency, way_at}

-- the last commit of some messages at the target's group is no later than their last finish there
commits_are_no_later : (scenario : Scenario) (schedule : Schedule) (ways messages : List ℕ)
    → last_commit scenario schedule scenario.target_group messages ≤ greatest (map (finish_by scenario schedule ways) messages)
commits_are_no_later scenario schedule ways messages =
    greatest_most (λ (n : ℕ). settle scenario schedule n scenario.target_group) (greatest (map (finish_by scenario schedule ways) messages)) messages
    (λ n is.
    let answers : ℕ = greatest (map (λ (k : ℕ). arrive scenario schedule n k + way_at ways n k) (message_at scenario n).destinations) in
    let committed : settle scenario schedule n scenario.target_group ≤ max (settle scenario schedule n scenario.target_group) answers = omega arith in
    let within : finish_by scenario schedule ways n ≤ greatest (map (finish_by scenario schedule ways) messages) =
    in_greatest (finish_by scenario schedule ways) n messages is in
    omega (arith, committed, within))

no_sooner : DeliveryLaw → (scenario : Scenario) (schedule : Schedule) (ways : List ℕ) → IsScenario scenario
    → latency_of scenario schedule ≤ finish_latency scenario ways schedule
unfolding latency_of latency_at finish_latency
no_sooner law scenario schedule ways lawful =
    let m : ℕ = scenario.target_message in
    let g : ℕ = scenario.target_group in
    let delivered : deliver scenario schedule m g ≡ last_commit scenario schedule g (m ∷ ahead_of scenario schedule m g) =
    law scenario schedule lawful m g lawful.addressed in
    let later = commits_are_no_later scenario schedule ways (m ∷ ahead_of scenario schedule m g) in
    omega (arith, delivered, later)

-- so neither is one whose finish latency is that, nor one that has no greater
pub no_sooner_at : DeliveryLaw → (scenario : Scenario) (schedule : Schedule) (ways : List ℕ) (latency : ℕ) → IsScenario scenario
    → latency ≡ finish_latency scenario ways schedule → latency_of scenario schedule ≤ latency
no_sooner_at law scenario schedule ways latency lawful is =
    subst (λ (n : ℕ). latency_of scenario schedule ≤ n) (sym is) (no_sooner law scenario schedule ways lawful)

pub no_sooner_than : DeliveryLaw → (scenario : Scenario) (schedule : Schedule) (ways : List ℕ) (latency : ℕ) → IsScenario scenario
    → finish_latency scenario ways schedule ≤ latency → latency_of scenario schedule ≤ latency
no_sooner_than law scenario schedule ways latency lawful less =
    let plain : latency_of scenario schedule ≤ finish_latency scenario ways schedule = no_sooner law scenario schedule ways lawful in
    omega (arith, plain, less)
