use Rattle.std.proofs.Common.{◌≡◌, ◌++◌, take}
use Rattle.std.specs.List.{All, flat_map}
use Rattle.convoy_best_order.specs.Targets.{MayBeTarget, target_at}
use Rattle.convoy_best_order.proofs.targets.push_message.Given as goal

-- the targets so far are those before and those of the groups so far
abbrev pub invariant-loop-group : goal.invariant-loop-group
invariant-loop-group l = record {
  value : l.targets.items
      ≡ l.initial.targets.items ++ flat_map (target_at l.wanted l.deadlines l.scenario l.message) (take l.group-index l.group-items);
  lawful : All (MayBeTarget l.scenario) l.targets.items;
}
