-- What it is to be the greatest latency of a message at a group, whatever the target is.
use Rattle.std.specs.Prelude.{◌≡◌, ◌↔◌, ℕ, ◌≤◌}
use Rattle.convoy_scenario.specs.Scenario.{Scenario}
use Rattle.convoy_scenario.specs.Targets.{with_target}
use Rattle.convoy_packets.specs.Assignment.{Schedule, IsAssignment}
use Rattle.convoy_sim.specs.Delivery.{latency_at}
use Rattle.convoy_sim.specs.Greatest.{IsUpper, IsGreatest}

-- some assignment takes message m so long to group g
abbrev pub IsReachedAt : Scenario → ℕ → ℕ → ℕ → Type 0
IsReachedAt scenario m g latency = (schedule : Schedule) × IsAssignment scenario schedule × (latency_at scenario schedule m g ≡ latency)

-- some assignment takes message m so long to group g, or longer
abbrev pub IsLate : Scenario → ℕ → ℕ → ℕ → Type 0
IsLate scenario m g latency = (schedule : Schedule) × IsAssignment scenario schedule × (latency ≤ latency_at scenario schedule m g)

-- no assignment takes message m longer than that to group g
abbrev pub IsUpperAt : Scenario → ℕ → ℕ → ℕ → Type 0
IsUpperAt scenario m g latency = (schedule : Schedule) → IsAssignment scenario schedule → latency_at scenario schedule m g ≤ latency

-- the greatest latency of message m at group g: some assignment has it, and none has a greater one
pub record IsGreatestAt (scenario : Scenario) (m g latency : ℕ) : Type 0 where
  pub reached : IsReachedAt scenario m g latency
  pub upper : IsUpperAt scenario m g latency

-- The latencies of a message at a group are those of the scenario that asks for them.
abbrev pub TargetIsAskedFor : Type 0
TargetIsAskedFor =
    (scenario : Scenario) (m g latency : ℕ)
    → (IsUpper (with_target scenario m g) latency ↔ IsUpperAt scenario m g latency)
    × (IsGreatest (with_target scenario m g) latency ↔ IsGreatestAt scenario m g latency)
