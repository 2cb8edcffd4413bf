-- The ceiling of traffic in which the same is asked as in a scenario.
use Rattle.std.proofs.Common.{◌≤◌, ◌==◌, ℕ, List, sym, subst, IsTrue}
use Rattle.std.specs.List.{list_any}
use Rattle.convoy_scenario.specs.Scenario.{Scenario, GoesTo, message_at}
use Rattle.convoy_scenario.specs.WellFormed.{IsScenario}
use Rattle.convoy_sim.specs.Delivery.{latency_at, latency_of}
use Rattle.convoy_ceiling.specs.Ceiling.{CeilingHolds, ceiling_at, ceiling_of}
use Rattle.convoy_ceiling.specs.Targets.{AsksTheSame, CeilingBoundsTraffic}

-- the target of the traffic goes to the group at which it is asked for
addressed : (scenario traffic : Scenario) → IsScenario scenario → AsksTheSame scenario traffic → GoesTo traffic traffic.target_message traffic.target_group
addressed scenario traffic well asks =
    let at_group : IsTrue (list_any (λ h. h == traffic.target_group) (message_at scenario scenario.target_message).destinations) =
    subst (λ (g : ℕ). IsTrue (list_any (λ h. h == g) (message_at scenario scenario.target_message).destinations)) (sym asks.group) well.addressed in
    subst (λ (hs : List ℕ). IsTrue (list_any (λ h. h == traffic.target_group) hs)) (sym asks.kind.destinations) at_group

pub bounded : CeilingHolds → CeilingBoundsTraffic
unfolding latency_of ceiling_of
bounded holds scenario traffic well asks schedule assigned =
    subst (λ (g : ℕ). latency_at traffic schedule traffic.target_message traffic.target_group ≤ ceiling_at scenario scenario.target_message g) asks.group
    (holds scenario well scenario.target_message traffic.target_group traffic schedule asks.kinds assigned.delays traffic.target_message asks.kind (addressed scenario traffic well asks))
