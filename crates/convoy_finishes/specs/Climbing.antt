-- What holds between two simulations of a climb to a great finish latency.
use Rattle.std.specs.Prelude.{◌≡◌, ℕ, ◌≤◌, List}
use Rattle.convoy_scenario.specs.Scenario.{Scenario}
use Rattle.convoy_packets.specs.Assignment.{IsAssignment}
use Rattle.convoy_finishes.specs.Finishes.{finish_latency}
use Rattle.convoy_finishes.specs.declared.climber.Climber.{Climber}

-- its schedules are assignments, and the latency is that of the best one
pub record IsClimbing (scenario : Scenario) (ways : List ℕ) (climber : Climber) : Type 0 where
  pub best : IsAssignment scenario climber.best
  pub latency : climber.latency ≡ finish_latency scenario ways climber.best
  pub kept : IsAssignment scenario climber.kept
  pub tried : IsAssignment scenario climber.tried

-- it still climbs: its latency is no lower, and it has no more simulations left
pub record GoesOn (scenario : Scenario) (ways : List ℕ) (old new : Climber) : Type 0 where
  pub climbing : IsClimbing scenario ways new
  pub rises : old.latency ≤ new.latency
  pub left : new.left ≤ old.left

-- only the schedule that is tried has changed, and it is an assignment
pub record OnlyTries (scenario : Scenario) (old new : Climber) : Type 0 where
  pub tried : IsAssignment scenario new.tried
  pub best : new.best ≡ old.best
  pub latency : new.latency ≡ old.latency
  pub kept : new.kept ≡ old.kept
  pub left : new.left ≡ old.left
