-- The ticks of a run in tables.
use Rattle.std.specs.Prelude.{ℕ, List, length}
use Rattle.convoy_scenario.specs.Scenario.{Scenario}
use Rattle.convoy_scenario.specs.WellFormed.{IsScenario}
use Rattle.convoy_packets.specs.Assignment.{Schedule, IsAssignment}
use Rattle.convoy_sim.specs.Places.{AreRows}
use Rattle.convoy_sim.specs.Times.{arrive, settle}

-- the scenario is well formed, and the tables have the ticks at which messages come to groups and are committed there, under the delays of an assignment
pub record IsTimetable (scenario : Scenario) (schedule : Schedule) (comings commits : List ℕ) : Type 0 where
  pub well : IsScenario scenario
  pub assignment : IsAssignment scenario schedule
  pub arrivals : AreRows (arrive scenario schedule) (length scenario.multicasts) (length scenario.groups) comings
  pub settlings : AreRows (settle scenario schedule) (length scenario.multicasts) (length scenario.groups) commits
