-- An instance with the one of which bounds are asked.
use Rattle.std.specs.Prelude.{◌≡◌, Option, Some, None}
use Rattle.convoy_scenario.specs.Scenario.{Scenario}
use Rattle.convoy_scenario.specs.Widened.{target_wait, widened}

-- it is the widened scenario, and none is needed where the target does not wait
abbrev pub IsMoved : Scenario → Option Scenario → Type 0
IsMoved scenario (Some moved) = moved ≡ widened scenario
IsMoved scenario None = target_wait scenario ≡ 0
