use Rattle.convoy_lines.specs.Texts.{ended}
use Rattle.convoy_scenario_lines.specs.ScenarioLines.{link_line}
use Rattle.convoy_scenario_lines.proofs.Texts.{in_map}
use Rattle.convoy_scenario_lines.proofs.line_writing.push_links.Goals as goal

pub returns : goal.returns
returns c =
    in_map ended (link_line c.args.scenario.now) c.args.scenario.now.links c.loop-link.link-index c.args.text.now.items c.loop-link.text.items
    (rw (← c.links-link-items.ensures.value) c.loop-link-test.false) c.loop-link.invariant
