use Rattle.std.proofs.Common.{◌≡◌, map, take}
use Rattle.std.specs.List.{All}
use Rattle.convoy_kinds.specs.Ceilings.{IsCeilingRow, row_target}
use Rattle.convoy_kinds.proofs.rows.ceiling_rows.Given as goal

abbrev pub invariant-loop-target : goal.invariant-loop-target
invariant-loop-target l = record {
  targets : map row_target l.rows.items ≡ take l.target-index l.target-items;
  told : All (IsCeilingRow l.fn.kinds) l.rows.items;
}
