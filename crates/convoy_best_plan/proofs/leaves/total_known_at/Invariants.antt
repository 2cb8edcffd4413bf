use Rattle.std.proofs.Common.{◌≤◌, take}
use Rattle.std.specs.List.{sum_by}
use Rattle.convoy_best_plan.specs.Leaves.{commit_known}
use Rattle.convoy_best_plan.proofs.leaves.total_known_at.Given as goal

-- the total so far is at most that of the groups so far
abbrev pub invariant-loop-group : goal.invariant-loop-group
invariant-loop-group l = l.total ≤ sum_by (commit_known l.plan l.scenario l.sites l.message) (take l.group-index l.groups)
