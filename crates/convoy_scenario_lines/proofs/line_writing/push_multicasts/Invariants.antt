use Rattle.std.proofs.Common.{◌≡◌, ◌++◌, take}
use Rattle.std.specs.List.{flat_map}
use Rattle.convoy_lines.specs.Texts.{ended}
use Rattle.convoy_scenario_lines.specs.ScenarioLines.{multicast_line}
use Rattle.convoy_scenario_lines.proofs.line_writing.push_multicasts.Given as goal

abbrev pub invariant-loop-message : goal.invariant-loop-message
invariant-loop-message l =
    l.text.items ≡ l.fn.text.items ++ flat_map (λ m. ended (multicast_line l.scenario m)) (take l.message l.scenario.multicasts)
