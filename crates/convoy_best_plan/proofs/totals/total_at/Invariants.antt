use Rattle.std.proofs.Common.{◌≡◌, ◌≤◌, ◌*◌, take}
use Rattle.std.specs.List.{sum_by}
use Rattle.convoy_ceiling.specs.Ceiling.{longest_to_commit}
use Rattle.convoy_best_plan.proofs.totals.total_at.Given as goal

-- the total so far is that of the groups so far, and not too great
abbrev pub invariant-loop-group : goal.invariant-loop-group
invariant-loop-group l = record {
  value : l.total ≡ sum_by (longest_to_commit l.scenario l.message) (take l.group-index l.groups);
  few : l.total ≤ l.group-index * 131070;
}
