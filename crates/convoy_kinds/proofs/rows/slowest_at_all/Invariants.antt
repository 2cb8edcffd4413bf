use Rattle.std.proofs.Common.{◌≡◌, length}
use Rattle.convoy_kinds.specs.Ceilings.{AreSlowest}
use Rattle.convoy_kinds.proofs.rows.slowest_at_all.Given as goal

abbrev pub invariant-loop-group : goal.invariant-loop-group
invariant-loop-group l = record {
  count : length l.slowest.items ≡ l.group;
  known : AreSlowest l.kinds l.slowest.items;
}
