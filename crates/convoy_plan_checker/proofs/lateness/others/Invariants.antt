use Rattle.std.proofs.Common.{◌≡◌, not, filter}
use Rattle.std.specs.List.{range_with_len}
use Rattle.convoy_plans.specs.Plans.{has}
use Rattle.convoy_plan_checker.proofs.lateness.others.Given as goal

-- of the groups so far those that are none of these
abbrev pub invariant-loop-group : goal.invariant-loop-group
invariant-loop-group l = l.left.items ≡ filter (λ g. not (has g l.groups)) (range_with_len 0 l.group-counter)
