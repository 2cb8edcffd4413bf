use Rattle.std.proofs.Common.{◌≡◌, ◌++◌, codes, take}
use Rattle.std.specs.List.{flat_map}
use Rattle.convoy_lines.specs.Texts.{spaced}
use Rattle.convoy_scenario_lines.proofs.line_writing.push_groups.Given as goal

abbrev pub invariant-loop-g : goal.invariant-loop-g
invariant-loop-g l = l.text.items ≡ l.fn.text.items ++ codes "groups" ++ flat_map spaced (take l.g l.scenario.groups)
