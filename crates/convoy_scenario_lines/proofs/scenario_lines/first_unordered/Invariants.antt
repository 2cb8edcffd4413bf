use Rattle.std.proofs.Common.{◌≡◌, ◌+◌, drop}
use Rattle.convoy_scenario_lines.specs.LineReading.{first_unordered}
use Rattle.convoy_scenario_lines.proofs.scenario_lines.first_unordered.Given as goal

abbrev pub invariant-loop-i : goal.invariant-loop-i
invariant-loop-i l = first_unordered l.groups (l.number + l.i) (drop l.i l.multicasts) ≡ first_unordered l.groups l.number l.multicasts
