use Rattle.std.proofs.Common.{◌≡◌, ◌++◌, take}
use Rattle.std.specs.List.{flat_map}
use Rattle.convoy_lines.specs.Texts.{spaced}
use Rattle.convoy_scenario.specs.Scenario.{message_at, group_name_at}
use Rattle.convoy_scenario_lines.proofs.line_writing.push_destinations.Given as goal

abbrev pub invariant-loop-g : goal.invariant-loop-g
invariant-loop-g l =
    l.text.items ≡ l.fn.text.items ++ flat_map (λ g. spaced (group_name_at l.scenario g)) (take l.g-index (message_at l.scenario l.message).destinations)
