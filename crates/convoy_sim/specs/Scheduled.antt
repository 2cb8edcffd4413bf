-- A scenario with a schedule: from the two, the whole run follows.
use Rattle.convoy_scenario.specs.Scenario.{Scenario}
use Rattle.convoy_packets.specs.Assignment.{Schedule}

pub record Scheduled : Type 0 where
  pub scenario : Scenario
  pub schedule : Schedule
