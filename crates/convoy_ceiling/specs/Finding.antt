-- What is found of a scenario's traffic.
use Rattle.std.specs.Prelude.{◌≡◌}
use Rattle.convoy_scenario.specs.Scenario.{Scenario}
use Rattle.convoy_sim.specs.Record.{Record, IsAttained}
use Rattle.convoy_ceiling.specs.Targets.{AsksTheSame}

-- traffic of the scenario's kinds of messages in which the same is asked, and a record of it: a schedule, with the latency that the traffic has under it
pub record IsFound (scenario traffic : Scenario) (found : Record) : Type 0 where
  pub asks : AsksTheSame scenario traffic
  pub of_traffic : found.scenario ≡ traffic
  pub attained : IsAttained found
