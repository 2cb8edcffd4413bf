-- The tables of a widened box, told from those of the box.
use Rattle.std.specs.Prelude.{◌≡◌, ◌≢◌, ℕ, ◌+◌, ◌-◌, ◌==◌, not, max, List, map}
use Rattle.std.specs.List.{filter}
use Rattle.convoy_scenario.specs.Scenario.{GoesTo, Scenario, message_at}
use Rattle.convoy_sim.specs.Times.{greatest}
use Rattle.convoy_intervals.specs.Boxes.{Box, IsBox}
use Rattle.convoy_intervals.specs.Bounds.{Tables, plain_bound, rivals, tables_of}
use Rattle.convoy_scenario.specs.Widened.{target_wait, widened}
use Rattle.convoy_origin.specs.Widened.{HasTarget}
use Rattle.convoy_origin.specs.WidenedBoxes.{target_range, widened_box}

-- the tables of a widened box
abbrev pub widened_tables : Scenario → Box → Tables
widened_tables scenario ranges = tables_of (widened scenario) (widened_box scenario ranges)

-- in them the ticks of message m at group g are those in the tables of the box, later by what the target may wait, less so much: `least` of the least ticks, and `most` of the greatest
pub record AreMoved (scenario : Scenario) (ranges : Box) (least most m g : ℕ) : Type 0 where
  pub least_arrival : (widened_tables scenario ranges).least_arrival m g + least ≡ (tables_of scenario ranges).least_arrival m g + target_wait scenario
  pub greatest_arrival : (widened_tables scenario ranges).greatest_arrival m g + most ≡ (tables_of scenario ranges).greatest_arrival m g + target_wait scenario
  pub least_settling : (widened_tables scenario ranges).least_settling m g + least ≡ (tables_of scenario ranges).least_settling m g + target_wait scenario
  pub greatest_settling : (widened_tables scenario ranges).greatest_settling m g + most ≡ (tables_of scenario ranges).greatest_settling m g + target_wait scenario

-- The target's ticks are moved by its own least and greatest wait; the least ticks of each other message by the target's greatest wait, and its greatest ticks by the target's least.
abbrev pub TablesWiden : Type 0
TablesWiden =
    (scenario : Scenario) (ranges : Box) → IsBox scenario ranges
    → (m g : ℕ) → GoesTo scenario m g
    → (m ≡ scenario.target_message → AreMoved scenario ranges (target_range scenario ranges).0 (target_range scenario ranges).1 m g)
    × (m ≢ scenario.target_message → AreMoved scenario ranges (target_range scenario ranges).1 (target_range scenario ranges).0 m g)

-- the rivals of the target beside itself
abbrev pub other_rivals : Scenario → Tables → List ℕ
other_rivals scenario tables = filter (λ n. not (n == scenario.target_message)) (rivals scenario tables)

-- the plain bound of a widened box from the tables of the box: the target's commit counts from its last issue in the box, and that of each other rival from its first
abbrev pub plain_bound_told : Scenario → Box → ℕ
plain_bound_told scenario ranges =
    let tables = tables_of scenario ranges in
    let waits = target_range scenario ranges in
    let at = (message_at scenario scenario.target_message).at in
    max (tables.greatest_settling scenario.target_message scenario.target_group - (at + waits.1))
    (greatest (map (λ n. tables.greatest_settling n scenario.target_group) (other_rivals scenario tables)) - (at + waits.0))

-- That is the plain bound of the widened box.
abbrev pub PlainBoundIsTold : Type 0
PlainBoundIsTold =
    (scenario : Scenario) (ranges : Box)
    → HasTarget scenario
    → IsBox scenario ranges
    → plain_bound (widened scenario) (widened_box scenario ranges) ≡ plain_bound_told scenario ranges
