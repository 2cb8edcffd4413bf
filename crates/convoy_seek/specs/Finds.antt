-- What seeking promises of the record that it answers.
use Rattle.std.specs.Prelude.{◌≡◌, ◌≤◌}
use Rattle.convoy_sim.specs.Record.{Record}

-- a record of the scenario that was given, of a latency that is no less than the one given
pub record IsNoLower (given found : Record) : Type 0 where
  pub scenario : found.scenario ≡ given.scenario
  pub latency : given.latency ≤ found.latency
