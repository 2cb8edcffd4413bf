use Rattle.std.proofs.Common.{◌≡◌, ◌++◌, take}
use Rattle.std.specs.List.{flat_map}
use Rattle.convoy_lines.specs.Texts.{ended}
use Rattle.convoy_scenario_lines.specs.ScenarioLines.{link_line}
use Rattle.convoy_scenario_lines.proofs.line_writing.push_links.Given as goal

abbrev pub invariant-loop-link : goal.invariant-loop-link
invariant-loop-link l =
    l.text.items ≡ l.fn.text.items ++ flat_map (λ link. ended (link_line l.scenario link)) (take l.link-index l.scenario.links)
