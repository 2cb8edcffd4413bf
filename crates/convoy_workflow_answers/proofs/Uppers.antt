-- What no run of a workflow exceeds.
use Rattle.std.proofs.Common.{◌≡◌, ◌*◌, ◌≤◌, ℕ, List, arith, sym, subst}
use Rattle.convoy_scenario.specs.Scenario.{Scenario}
use Rattle.convoy_scenario.specs.WellFormed.{IsScenario}
use Rattle.convoy_sim.specs.Delivery.{latency_at}
use Rattle.convoy_sim.specs.ProtocolLaws.{LatencyWithinFourDelays}
use Rattle.convoy_causes.specs.declared.cause.Cause.{Cause}
use Rattle.convoy_causes.specs.Causes.{IsUpperOfCaused, time_from}

-- what none exceeds, none exceeds that is more
pub at_most_more : (scenario : Scenario) (causes : List Cause) (x most more : ℕ) → IsUpperOfCaused scenario causes x most → most ≤ more → IsUpperOfCaused scenario causes x more
at_most_more scenario causes x most more upper below schedule caused = let within = upper schedule caused in omega arith

-- from the issue of the target to its delivery none exceeds four delays
pub at_most_four : LatencyWithinFourDelays → (scenario : Scenario) (causes : List Cause) (x most : ℕ) → IsScenario scenario → x ≡ scenario.target_message
    → most ≡ 4 * scenario.delay → IsUpperOfCaused scenario causes x most
unfolding latency_at
at_most_four four scenario causes x most lawful target is schedule caused =
    let within = four scenario schedule lawful caused.assignment scenario.target_message scenario.target_group lawful.addressed in
    subst (λ (n : ℕ). time_from scenario x schedule ≤ n) (sym is)
    (subst (λ y. time_from scenario y schedule ≤ 4 * scenario.delay) (sym target) within)
