-- The stamp bound: the plain bound without the rivals whose stamps are surely greater than the target's.
use Rattle.std.specs.Prelude.{ℕ, ◌+◌, ◌-◌, ◌==◌, nat_lt, Bool, ◌&&◌, not, List, ◌∷◌, length, map}
use Rattle.std.specs.List.{filter, fold}
use Rattle.convoy_scenario.specs.Scenario.{Scenario, message_at}
use Rattle.convoy_sim.specs.declared.timestamp.Timestamp.{Timestamp}
use Rattle.convoy_sim.specs.Times.{greatest}
use Rattle.convoy_sim.specs.Stamps.{is_less, later, no_stamp}
use Rattle.convoy_sim.specs.Delivery.{addressed_to}
use Rattle.convoy_intervals.specs.Boxes.{Box}
use Rattle.convoy_intervals.specs.Bounds.{Tables, tables_of, rivals}
use Rattle.convoy_stamps.specs.Reach.{reach_of}

-- the bound over the rivals that are not left out: from the issue of the target to the last commit of it and of them at its group
abbrev pub bound_by : Scenario → Tables → (ℕ → Bool) → ℕ
bound_by scenario tables leaves_out =
    greatest (map (λ n. tables.greatest_settling n scenario.target_group)
    (scenario.target_message ∷ filter (λ n. not (leaves_out n)) (rivals scenario tables)))
    - (message_at scenario scenario.target_message).at

-- the messages that surely arrive at group g before message n does
abbrev pub sure_before : Scenario → Tables → ℕ → ℕ → List ℕ
sure_before scenario tables g n =
    filter (λ q. not (q == n) && nat_lt (tables.greatest_arrival q g) (tables.least_arrival n g)) (addressed_to scenario g)

-- no stamp of message n at group g is less
abbrev pub lowest_stamp : Scenario → Tables → ℕ → ℕ → Timestamp
lowest_stamp scenario tables n g = record { time = 1 + length (sure_before scenario tables g n); group = g }

-- no stamp of message m at group g is greater
abbrev pub highest_stamp : Scenario → Tables → ℕ → ℕ → Timestamp
highest_stamp scenario tables m g = record { time = length (reach_of scenario tables m g); group = g }

-- no final stamp of the target is greater
abbrev pub highest_final : Scenario → Tables → Timestamp
highest_final scenario tables =
    let target = scenario.target_message in
    fold later no_stamp (map (highest_stamp scenario tables target) (message_at scenario target).destinations)

-- message n is surely behind the target at its group: its stamp there is greater than the final stamp of the target
abbrev pub is_surely_behind : Scenario → Tables → ℕ → Bool
is_surely_behind scenario tables n = is_less (highest_final scenario tables) (lowest_stamp scenario tables n scenario.target_group)

-- the stamp bound over tables
abbrev pub stamp_bound_over : Scenario → Tables → ℕ
stamp_bound_over scenario tables = bound_by scenario tables (is_surely_behind scenario tables)

-- the stamp bound of a box
unfoldable pub stamp_bound : Scenario → Box → ℕ
stamp_bound scenario ranges = stamp_bound_over scenario (tables_of scenario ranges)
