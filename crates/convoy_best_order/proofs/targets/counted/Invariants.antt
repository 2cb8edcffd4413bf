use Rattle.std.proofs.Common.{◌≡◌, filter, take}
use Rattle.convoy_best_order.specs.Targets.{counts}
use Rattle.convoy_best_order.proofs.targets.counted.Given as goal

-- of the targets so far those that count are kept
abbrev pub invariant-loop-target : goal.invariant-loop-target
invariant-loop-target l = l.kept.items ≡ filter (counts l.is_judged) (take l.target-index l.targets)
