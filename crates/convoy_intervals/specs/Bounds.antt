-- Bounds: numbers that no member's latency exceeds. Each is a function of four tables that enclose what arrival and settling may be.
use Rattle.std.specs.Prelude.{ℕ, ◌-◌, ◌≤◌, nat_le, List, ◌∷◌, map}
use Rattle.std.specs.List.{filter}
use Rattle.convoy_scenario.specs.Scenario.{Scenario, message_at, GoesTo}
use Rattle.convoy_packets.specs.Assignment.{Schedule}
use Rattle.convoy_packets.specs.Table.{least_of}
use Rattle.convoy_sim.specs.Times.{greatest, arrive, settle}
use Rattle.convoy_sim.specs.Delivery.{addressed_to}
use Rattle.convoy_intervals.specs.Boxes.{Box, greatest_of}

-- the least and the greatest tick at which message m arrives at group g, and at which it is committed there
pub record Tables : Type 0 where
  pub least_arrival : ℕ → ℕ → ℕ
  pub greatest_arrival : ℕ → ℕ → ℕ
  pub least_settling : ℕ → ℕ → ℕ
  pub greatest_settling : ℕ → ℕ → ℕ

-- the tables enclose arrival and settling under a schedule, of each message at each of its destinations
pub record Encloses (scenario : Scenario) (schedule : Schedule) (tables : Tables) : Type 0 where
  pub arrival_low : (m g : ℕ) → GoesTo scenario m g → tables.least_arrival m g ≤ arrive scenario schedule m g
  pub arrival_high : (m g : ℕ) → GoesTo scenario m g → arrive scenario schedule m g ≤ tables.greatest_arrival m g
  pub settling_low : (m g : ℕ) → GoesTo scenario m g → tables.least_settling m g ≤ settle scenario schedule m g
  pub settling_high : (m g : ℕ) → GoesTo scenario m g → settle scenario schedule m g ≤ tables.greatest_settling m g

-- the tables of a box: arrival and settling with all its least, and with all its greatest, delays
abbrev pub tables_of : Scenario → Box → Tables
tables_of scenario ranges = record {
  least_arrival = arrive scenario (least_of ranges);
  greatest_arrival = arrive scenario (greatest_of ranges);
  least_settling = settle scenario (least_of ranges);
  greatest_settling = settle scenario (greatest_of ranges);
}

-- the messages that may hold the target back at its group: those that go there and may arrive before the target is committed, or in that very tick
abbrev pub rivals : Scenario → Tables → List ℕ
rivals scenario tables =
    let group = scenario.target_group in
    filter (λ n. nat_le (tables.least_arrival n group) (tables.greatest_settling scenario.target_message group)) (addressed_to scenario group)

-- the plain bound over tables: from the issue of the target to the last commit at its group of the target and its rivals
abbrev pub plain_bound_over : Scenario → Tables → ℕ
plain_bound_over scenario tables =
    greatest (map (λ n. tables.greatest_settling n scenario.target_group) (scenario.target_message ∷ rivals scenario tables))
    - (message_at scenario scenario.target_message).at

-- the plain bound of a box
unfoldable pub plain_bound : Scenario → Box → ℕ
plain_bound scenario ranges = plain_bound_over scenario (tables_of scenario ranges)
