use Rattle.std.proofs.Common.{◌≡◌, take}
use Rattle.convoy_scenario.specs.Widened.{widened}
use Rattle.convoy_scenario.proofs.scenario.Scenario.widened_multicasts.Given as goal

abbrev pub invariant-loop-message : goal.invariant-loop-message
invariant-loop-message l = l.multicasts.items ≡ take l.message (widened l.self).multicasts
