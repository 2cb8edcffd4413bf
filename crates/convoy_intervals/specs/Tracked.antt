-- A box of a scenario, with what is kept of it.
use Rattle.std.specs.Prelude.{◌≡◌, ℕ, List}
use Rattle.convoy_scenario.specs.Scenario.{Scenario}
use Rattle.convoy_scenario.specs.WellFormed.{IsScenario}
use Rattle.convoy_intervals.specs.declared.spans.Span.{Span}
use Rattle.convoy_intervals.specs.Boxes.{Box, IsBox}
use Rattle.convoy_intervals.specs.Bounds.{plain_bound}
use Rattle.convoy_intervals.specs.Spans.{AreSpans}

-- the scenario, and the box: all else follows from the two
pub record Tracked : Type 0 where
  pub scenario : Scenario
  pub delay_box : Box

-- a box of a scenario
abbrev pub tracked_of : Scenario → Box → Tracked
tracked_of scenario ranges = record { scenario = scenario; delay_box = ranges }

-- what is kept is of a box of a well-formed scenario: its spans, and its bound
pub record IsTracked (tracked : Tracked) (spans : List Span) (bound : ℕ) : Type 0 where
  pub well : IsScenario tracked.scenario
  pub inside : IsBox tracked.scenario tracked.delay_box
  pub kept : AreSpans tracked.scenario tracked.delay_box spans
  pub bounded : bound ≡ plain_bound tracked.scenario tracked.delay_box
