-- What it is to be the greatest latency of a scenario.
use Rattle.std.specs.Prelude.{◌≡◌, ℕ, ◌≤◌}
use Rattle.convoy_scenario.specs.Scenario.{Scenario}
use Rattle.convoy_packets.specs.Assignment.{Schedule, IsAssignment}
use Rattle.convoy_sim.specs.Delivery.{latency_of}

-- some assignment has the latency
abbrev pub IsReached : Scenario → ℕ → Type 0
IsReached scenario latency = (schedule : Schedule) × IsAssignment scenario schedule × (latency_of scenario schedule ≡ latency)

-- no assignment has a greater latency
abbrev pub IsUpper : Scenario → ℕ → Type 0
IsUpper scenario latency = (schedule : Schedule) → IsAssignment scenario schedule → latency_of scenario schedule ≤ latency

-- the greatest latency of a scenario: some assignment has it, and none has a greater one
pub record IsGreatest (scenario : Scenario) (latency : ℕ) : Type 0 where
  pub reached : IsReached scenario latency
  pub upper : IsUpper scenario latency
