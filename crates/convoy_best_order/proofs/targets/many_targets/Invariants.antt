use Rattle.std.proofs.Common.{◌≡◌}
use Rattle.std.specs.List.{All, flat_map, range_with_len}
use Rattle.convoy_best_order.specs.Targets.{MayBeTarget, targets_at}
use Rattle.convoy_best_order.proofs.targets.many_targets.Given as goal

-- the targets so far are those of the messages so far
abbrev pub invariant-loop-message : goal.invariant-loop-message
invariant-loop-message l = record {
  value : l.targets.items ≡ flat_map (targets_at l.wanted l.deadlines l.scenario) (range_with_len 0 l.message);
  lawful : All (MayBeTarget l.scenario) l.targets.items;
}
