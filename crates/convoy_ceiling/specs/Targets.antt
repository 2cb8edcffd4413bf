-- Traffic in which the same is asked as in a scenario.
use Rattle.std.specs.Prelude.{◌≡◌}
use Rattle.convoy_scenario.specs.Scenario.{Scenario, message_at}
use Rattle.convoy_scenario.specs.WellFormed.{IsScenario}
use Rattle.convoy_sim.specs.Greatest.{IsUpper}
use Rattle.convoy_ceiling.specs.Ceiling.{IsOfKind, IsTrafficOf, ceiling_of}

-- traffic of the scenario's kinds of messages, in the same ticks, that asks for a message of the kind of the scenario's target at the same group
pub record AsksTheSame (scenario traffic : Scenario) : Type 0 where
  pub kinds : IsTrafficOf scenario traffic
  pub time : traffic.time ≡ scenario.time
  pub tick : traffic.tick ≡ scenario.tick
  pub kind : IsOfKind (message_at scenario scenario.target_message) (message_at traffic traffic.target_message)
  pub group : traffic.target_group ≡ scenario.target_group

-- Each scenario asks the same as itself: its own messages are traffic of their kinds.
abbrev pub OwnKindsAreTraffic : Type 0
OwnKindsAreTraffic = (scenario : Scenario) → AsksTheSame scenario scenario

-- No latency of such traffic is above the scenario's ceiling.
abbrev pub CeilingBoundsTraffic : Type 0
CeilingBoundsTraffic =
    (scenario traffic : Scenario) → IsScenario scenario → AsksTheSame scenario traffic → IsUpper traffic (ceiling_of scenario)
