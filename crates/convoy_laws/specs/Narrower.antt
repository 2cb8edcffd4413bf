-- Boxes inside other boxes, and tables that are narrower than others.
use Rattle.std.specs.Prelude.{ℕ, ◌≤◌}
use Rattle.std.specs.List.{AllZip}
use Rattle.convoy_scenario.specs.Scenario.{Scenario, GoesTo}
use Rattle.convoy_intervals.specs.Boxes.{Box, IsInside}
use Rattle.convoy_intervals.specs.Bounds.{Tables}

-- the second box lies in the first one: each of its ranges is inside that of the first one
abbrev pub IsInsideBox : Box → Box → Type 0
IsInsideBox outer inner = AllZip IsInside outer inner

-- by the inner tables no message arrives at any of its destinations, or is committed there, earlier or later than it may by the outer ones
pub record AreNarrower (scenario : Scenario) (outer inner : Tables) : Type 0 where
  pub arrival_low : (m g : ℕ) → GoesTo scenario m g → outer.least_arrival m g ≤ inner.least_arrival m g
  pub arrival_high : (m g : ℕ) → GoesTo scenario m g → inner.greatest_arrival m g ≤ outer.greatest_arrival m g
  pub settling_low : (m g : ℕ) → GoesTo scenario m g → outer.least_settling m g ≤ inner.least_settling m g
  pub settling_high : (m g : ℕ) → GoesTo scenario m g → inner.greatest_settling m g ≤ outer.greatest_settling m g
