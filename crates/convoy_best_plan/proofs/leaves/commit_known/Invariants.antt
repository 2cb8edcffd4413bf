use Rattle.std.proofs.Common.{◌≤◌, map}
use Rattle.convoy_sim.specs.Times.{greatest}
use Rattle.convoy_best_plan.specs.Leaves.{way_by}
use Rattle.convoy_best_plan.proofs.leaves.commit_known.Given as goal

-- the longest so far is no longer than that by all groups
abbrev pub invariant-loop-via : goal.invariant-loop-via
invariant-loop-via l = l.longest ≤ greatest (map (way_by l.plan l.sites l.sender l.origin l.group) l.groups)
