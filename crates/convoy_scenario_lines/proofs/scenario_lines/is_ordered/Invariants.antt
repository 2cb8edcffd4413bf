use Rattle.std.proofs.Common.{◌≡◌, drop, filter}
use Rattle.std.specs.Cmp.Lexicographic.{pointwise}
use Rattle.std.specs.Str.{bytes_eq}
use Rattle.convoy_draft.specs.Checks.{is_among}
use Rattle.convoy_scenario_lines.specs.LineReading.{is_ordered}
use Rattle.convoy_scenario_lines.proofs.scenario_lines.is_ordered.Given as goal

abbrev pub invariant-loop-group : goal.invariant-loop-group
invariant-loop-group l =
    pointwise bytes_eq l.rest (filter (λ group. is_among group l.multicast.to) (drop l.group-index l.groups)) ≡ is_ordered l.groups l.multicast
