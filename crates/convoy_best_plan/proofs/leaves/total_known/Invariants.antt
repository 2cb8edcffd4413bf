use Rattle.std.proofs.Common.{◌≤◌}
use Rattle.std.specs.List.{range_with_len, sum_by}
use Rattle.convoy_best_plan.specs.Leaves.{total_known_at}
use Rattle.convoy_best_plan.proofs.leaves.total_known.Given as goal

-- the total so far is at most that of the messages so far
abbrev pub invariant-loop-message : goal.invariant-loop-message
invariant-loop-message l = l.total ≤ sum_by (total_known_at l.plan l.scenario l.sites) (range_with_len 0 l.message)
