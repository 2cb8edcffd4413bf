use Rattle.std.proofs.Common.{◌≡◌}
use Rattle.std.specs.List.{range_with_len}
use Rattle.convoy_best_plan.proofs.last.with_last.Given as goal

-- the groups so far, by number
abbrev pub invariant-loop-other : goal.invariant-loop-other
invariant-loop-other l = l.order.items ≡ range_with_len 0 l.other
