use Rattle.std.proofs.Common.{◌≡◌, ◌≤◌, map, take}
use Rattle.convoy_sim.specs.Times.{greatest}
use Rattle.convoy_best_plan.specs.Leaves.{way_by}
use Rattle.convoy_plan_checker.proofs.commits.commit_known.Given as goal

-- the longest so far is that by the groups so far, and not too long
abbrev pub invariant-loop-via : goal.invariant-loop-via
invariant-loop-via l = record {
  value : l.longest ≡ greatest (map (way_by l.plan l.sites l.sender l.origin l.group) (take l.via-index l.groups));
  few : l.longest ≤ 131070;
}
