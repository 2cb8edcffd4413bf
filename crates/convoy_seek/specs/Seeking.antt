-- What holds between two simulations of a seeker.
use Rattle.std.specs.Prelude.{◌≡◌, ◌≤◌}
use Rattle.convoy_scenario.specs.Scenario.{Scenario}
use Rattle.convoy_packets.specs.Assignment.{IsAssignment}
use Rattle.convoy_seek.specs.declared.seeker.Seeker.{Seeker}

-- its best record is one of the scenario, and both its schedules are assignments
pub record IsSeeking (scenario : Scenario) (seeker : Seeker) : Type 0 where
  pub of_scenario : seeker.best.scenario ≡ scenario
  pub kept : IsAssignment scenario seeker.kept
  pub tried : IsAssignment scenario seeker.tried

-- it still seeks in the scenario: its record is no lower, and it has no more simulations left
pub record GoesOn (scenario : Scenario) (old new : Seeker) : Type 0 where
  pub seeking : IsSeeking scenario new
  pub rises : old.best.latency ≤ new.best.latency
  pub left : new.left ≤ old.left
