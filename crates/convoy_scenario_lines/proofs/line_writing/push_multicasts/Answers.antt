use Rattle.std.proofs.Common.{arith}
use Rattle.convoy_lines.specs.Texts.{ended}
use Rattle.convoy_scenario_lines.specs.ScenarioLines.{multicast_line}
use Rattle.convoy_scenario_lines.proofs.Texts.{in_map}
use Rattle.convoy_scenario_lines.proofs.line_writing.push_multicasts.Goals as goal

pub returns : goal.returns
returns c =
    in_map ended (multicast_line c.args.scenario.now) c.args.scenario.now.multicasts c.loop-message.message c.args.text.now.items c.loop-message.text.items
    (omega arith) c.loop-message.invariant
