use Rattle.std.proofs.Common.{◌≡◌, ◌+◌, None, drop, map}
use Rattle.convoy_scenario_lines.specs.LineReading.{first_misplaced}
use Rattle.convoy_scenario.specs.Numbering.{link_of}
use Rattle.convoy_scenario_lines.proofs.scenario_lines.first_misplaced.Given as goal

abbrev pub invariant-loop-i : goal.invariant-loop-i
invariant-loop-i l =
    first_misplaced l.delay l.before (l.number + l.i) (map (link_of l.groups l.places) (drop l.i l.links)) ≡ first_misplaced l.delay None l.number (map (link_of l.groups l.places) l.links)
