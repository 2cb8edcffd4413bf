use Rattle.std.proofs.Common.{◌≡◌, ◌++◌, map, take}
use Rattle.convoy_stamps.specs.Reach.{pair_of}
use Rattle.convoy_stamps.proofs.reach.add_pairs.Given as goal

abbrev pub invariant-loop-group : goal.invariant-loop-group
invariant-loop-group l = l.pairs.items ≡ l.initial.pairs.items ++ map (pair_of l.message) (take l.group-index l.group-items)
