-- What holds between two simulations of a climb to a run that takes long.
use Rattle.std.specs.Prelude.{◌≡◌, ℕ, ◌≤◌, List, IsTrue}
use Rattle.convoy_scenario.specs.Scenario.{Scenario}
use Rattle.convoy_packets.specs.Assignment.{IsAssignment}
use Rattle.convoy_causes.specs.declared.cause.Cause.{Cause}
use Rattle.convoy_causes.specs.declared.climber.Climber.{Climber}
use Rattle.convoy_causes.specs.Causes.{IsCaused, time_from}

-- its schedules are assignments, and where it has found a run in which messages follow their causes, the best one is such, with that time
pub record IsClimbing (scenario : Scenario) (causes : List Cause) (origin : ℕ) (climber : Climber) : Type 0 where
  pub best : IsAssignment scenario climber.best
  pub caused : IsTrue climber.found → IsCaused scenario causes climber.best
  pub time : IsTrue climber.found → climber.time ≡ time_from scenario origin climber.best
  pub kept : IsAssignment scenario climber.kept
  pub tried : IsAssignment scenario climber.tried

-- it still climbs, and it has no more simulations left
pub record GoesOn (scenario : Scenario) (causes : List Cause) (origin : ℕ) (old new : Climber) : Type 0 where
  pub climbing : IsClimbing scenario causes origin new
  pub left : new.left ≤ old.left
