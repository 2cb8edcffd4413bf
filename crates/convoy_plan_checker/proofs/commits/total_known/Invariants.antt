use Rattle.std.proofs.Common.{◌≡◌, ◌≤◌, ◌*◌}
use Rattle.std.specs.List.{range_with_len, sum_by}
use Rattle.convoy_best_plan.specs.Leaves.{total_known_at}
use Rattle.convoy_plan_checker.proofs.commits.total_known.Given as goal

-- the total so far is that of the messages so far, and not too great
abbrev pub invariant-loop-message : goal.invariant-loop-message
invariant-loop-message l = record {
  value : l.total ≡ sum_by (total_known_at l.plan l.scenario l.sites) (range_with_len 0 l.message);
  few : l.total ≤ l.message * 2000000;
}
