use Rattle.std.proofs.Common.{◌≡◌, filter, not, take}
use Rattle.convoy_best_order.specs.Targets.{counts}
use Rattle.convoy_best_order.proofs.targets.uncounted.Given as goal

-- of the targets so far those that do not count are kept
abbrev pub invariant-loop-target : goal.invariant-loop-target
invariant-loop-target l = l.kept.items ≡ filter (λ target. not (counts l.is_judged target)) (take l.target-index l.targets)
