-- What is asked of traffic, piece by piece.
use Rattle.std.specs.Prelude.{◌≡◌, length}
use Rattle.convoy_scenario.specs.Scenario.{Scenario, message_at}
use Rattle.convoy_ceiling.specs.Ceiling.{IsOfKind}

-- as many groups, and the same D, in the same ticks
pub record HasSameTicks (scenario traffic : Scenario) : Type 0 where
  pub groups : length traffic.groups ≡ length scenario.groups
  pub delay : traffic.delay ≡ scenario.delay
  pub time : traffic.time ≡ scenario.time
  pub tick : traffic.tick ≡ scenario.tick

-- a target of the same kind, at the same group
pub record HasSameTarget (scenario traffic : Scenario) : Type 0 where
  pub kind : IsOfKind (message_at scenario scenario.target_message) (message_at traffic traffic.target_message)
  pub group : traffic.target_group ≡ scenario.target_group
