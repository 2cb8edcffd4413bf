use Rattle.std.proofs.Common.{◌≡◌, ◌++◌, map, take}
use Rattle.std.specs.List.{All}
use Rattle.convoy_kinds.specs.Ceilings.{IsKindTarget}
use Rattle.convoy_kinds.proofs.rows.push_targets.Given as goal

-- the targets so far are those before and those of the groups so far
abbrev pub invariant-loop-group : goal.invariant-loop-group
invariant-loop-group l = record {
  targets : l.targets.items ≡ l.initial.targets.items ++ map (λ h. (l.kind, h)) (take l.group-index l.group-items);
  lawful : All (IsKindTarget l.kinds) l.targets.items;
}
