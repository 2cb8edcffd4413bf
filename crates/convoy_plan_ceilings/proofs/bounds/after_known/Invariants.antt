use Rattle.std.proofs.Common.{◌≤◌}
use Rattle.convoy_plan_ceilings.specs.Bounds.{after_known}
use Rattle.convoy_plan_ceilings.proofs.bounds.after_known.Given as goal

-- the longest so far is no longer than that of all messages
abbrev pub invariant-loop-message : goal.invariant-loop-message
invariant-loop-message l = l.longest ≤ after_known l.plan l.scenario l.leasts l.sites l.group
