-- What is promised of a wish run. How it is found no proof rests on.
use Rattle.std.specs.Prelude.{◌≡◌, ℕ, ◌<◌}
use Rattle.convoy_scenario.specs.Scenario.{Scenario}
use Rattle.convoy_sim.specs.Record.{Record}
use Rattle.convoy_intervals.specs.Boxes.{Box, IsIn}

-- a record of the scenario, with its delays and waits in the box, of a latency above the one that is known; as each record it has an order of the scenario's ties
pub record IsWishRun (scenario : Scenario) (box : Box) (known : ℕ) (found : Record) : Type 0 where
  pub of_scenario : found.scenario ≡ scenario
  pub inside : IsIn box found.schedule
  pub above : known < found.latency
