use Rattle.std.proofs.Common.{◌≡◌, ◌≤◌, ◌*◌, take}
use Rattle.std.specs.List.{sum_by}
use Rattle.convoy_best_plan.specs.Leaves.{commit_known}
use Rattle.convoy_plan_checker.proofs.commits.total_known_at.Given as goal

-- the total so far is that of the groups so far, and not too great
abbrev pub invariant-loop-group : goal.invariant-loop-group
invariant-loop-group l = record {
  value : l.total ≡ sum_by (commit_known l.plan l.scenario l.sites l.message) (take l.group-index l.groups);
  few : l.total ≤ l.group-index * 131070;
}
