use Rattle.std.proofs.Common.{arith}
use Rattle.convoy_scenario_lines.proofs.line_writing.push_target.Goals as goal

pub group_name-requires : goal.group_name-requires
group_name-requires c = omega (arith, c.targets_are_groups.ensures c.args.scenario.now c.target_group.ensures.lawful)
