use Rattle.std.proofs.Common.{◌≡◌}
use Rattle.std.specs.List.{All, flat_map, range_with_len}
use Rattle.convoy_kinds.specs.Ceilings.{IsKindTarget, targets_of_kind}
use Rattle.convoy_kinds.proofs.rows.targets_of.Given as goal

-- the targets so far are those of the kinds so far
abbrev pub invariant-loop-kind : goal.invariant-loop-kind
invariant-loop-kind l = record {
  targets : l.targets.items ≡ flat_map (targets_of_kind l.kinds) (range_with_len 0 l.kind);
  lawful : All (IsKindTarget l.kinds) l.targets.items;
}
