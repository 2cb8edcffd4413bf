use Rattle.std.proofs.Common.{◌≡◌, flat_map, take}
use Rattle.convoy_budget.specs.Budgets.{keys_of}
use Rattle.convoy_budget.proofs.rows.all_keys.Given as goal

-- the keys so far are those of the targets so far
abbrev pub invariant-loop-target : goal.invariant-loop-target
invariant-loop-target l = l.keys.items ≡ flat_map (keys_of l.ways) (take l.target-index l.targets)
