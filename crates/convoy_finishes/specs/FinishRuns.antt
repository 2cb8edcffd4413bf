-- A run in which messages are finished some time after their commit, as the program keeps it.
use Rattle.std.specs.Prelude.{ℕ, List}
use Rattle.convoy_scenario.specs.Scenario.{Scenario}
use Rattle.convoy_scenario.specs.WellFormed.{IsScenario}
use Rattle.convoy_packets.specs.Assignment.{Schedule, IsAssignment}
use Rattle.convoy_sim.specs.Run.{IsRunOf, Run}

-- a run of a scenario under a schedule, and the ways by which answers come
pub record Answered : Type 0 where
  pub scenario : Scenario
  pub schedule : Schedule
  pub ways : List ℕ
  pub run : Run

-- the run is that of the scenario, which is well formed, under the schedule, which is an assignment
pub record IsAnswered (answered : Answered) : Type 0 where
  pub well : IsScenario answered.scenario
  pub assignment : IsAssignment answered.scenario answered.schedule
  pub is_run : IsRunOf answered.scenario answered.schedule answered.run
