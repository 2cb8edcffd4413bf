use Rattle.std.proofs.Common.{◌≡◌, ◌≤◌, map, take}
use Rattle.convoy_sim.specs.Times.{greatest}
use Rattle.convoy_ceiling.specs.Ceiling.{longest_by}
use Rattle.convoy_kinds.specs.Kinds.{all_kinds}
use Rattle.convoy_kinds.proofs.slowest.longest_to_commit.Given as goal

abbrev pub invariant-loop-via : goal.invariant-loop-via
invariant-loop-via l = record {
  value : l.longest ≡ greatest (map (longest_by (all_kinds l.kinds) l.sender l.group) (take l.via-index l.via-items));
  fits : l.longest ≤ 131070;
}
