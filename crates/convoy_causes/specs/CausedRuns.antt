-- A run of a scenario, as the program keeps it.
use Rattle.convoy_scenario.specs.Scenario.{Scenario}
use Rattle.convoy_scenario.specs.WellFormed.{IsScenario}
use Rattle.convoy_packets.specs.Assignment.{Schedule, IsAssignment}
use Rattle.convoy_sim.specs.Run.{IsRunOf, Run}

-- a run of a scenario under a schedule
pub record Shown : Type 0 where
  pub scenario : Scenario
  pub schedule : Schedule
  pub run : Run

-- the run is that of the scenario, which is well formed, under the schedule, which is an assignment
pub record IsShown (shown : Shown) : Type 0 where
  pub well : IsScenario shown.scenario
  pub assignment : IsAssignment shown.scenario shown.schedule
  pub is_run : IsRunOf shown.scenario shown.schedule shown.run
