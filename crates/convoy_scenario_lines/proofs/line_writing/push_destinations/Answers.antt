use Rattle.convoy_lines.specs.Texts.{spaced}
use Rattle.convoy_scenario.specs.Scenario.{message_at, group_name_at}
use Rattle.convoy_scenario_lines.proofs.Texts.{in_map}
use Rattle.convoy_scenario_lines.proofs.line_writing.push_destinations.Goals as goal

pub returns : goal.returns
returns c =
    in_map spaced (group_name_at c.args.scenario.now) (message_at c.args.scenario.now c.args.message).destinations c.loop-g.g-index c.args.text.now.items c.loop-g.text.items
    (rw (← c.destinations-g-items.ensures.value) c.loop-g-test.false) c.loop-g.invariant
