-- A schedule with its latency in a scenario.
use Rattle.std.specs.Prelude.{◌≡◌, ℕ}
use Rattle.convoy_scenario.specs.Scenario.{Scenario}
use Rattle.convoy_scenario.specs.WellFormed.{IsScenario}
use Rattle.convoy_packets.specs.Assignment.{Schedule, IsAssignment}
use Rattle.convoy_sim.specs.Delivery.{latency_of}

-- a scenario, a schedule, and a latency in ticks
pub record Record : Type 0 where
  pub scenario : Scenario
  pub schedule : Schedule
  pub latency : ℕ

-- the scenario is well formed, and has that latency under that schedule, which is an assignment
pub record IsAttained (attained : Record) : Type 0 where
  pub scenario : IsScenario attained.scenario
  pub assignment : IsAssignment attained.scenario attained.schedule
  pub latency : attained.latency ≡ latency_of attained.scenario attained.schedule

-- the schedule, with the latency that the scenario has under it
abbrev pub attained_by : Scenario → Schedule → Record
attained_by scenario schedule = record { scenario = scenario; schedule = schedule; latency = latency_of scenario schedule }
