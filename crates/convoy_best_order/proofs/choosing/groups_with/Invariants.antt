use Rattle.std.proofs.Common.{◌≡◌, filter}
use Rattle.std.specs.List.{range_with_len}
use Rattle.convoy_best_order.specs.Targets.{has_target}
use Rattle.convoy_best_order.proofs.choosing.groups_with.Given as goal

-- those of the groups so far
abbrev pub invariant-loop-group : goal.invariant-loop-group
invariant-loop-group l = l.groups.items ≡ filter (has_target l.targets) (range_with_len 0 l.group)
