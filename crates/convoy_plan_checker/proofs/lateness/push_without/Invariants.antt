use Rattle.std.proofs.Common.{◌≡◌, ◌++◌, ◌==◌, not, filter, take}
use Rattle.convoy_plan_checker.proofs.lateness.push_without.Given as goal

-- of the groups so far all but the one
abbrev pub invariant-loop-other : goal.invariant-loop-other
invariant-loop-other l = l.order.items ≡ l.fn.order.items ++ filter (λ h. not (h == l.group)) (take l.other-index l.groups)
