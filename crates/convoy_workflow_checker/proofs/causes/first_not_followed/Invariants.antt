use Rattle.std.proofs.Common.{ℕ, ◌<◌, get_or}
use Rattle.convoy_causes.specs.declared.cause.Cause.{Cause}
use Rattle.convoy_causes.specs.Causes.{IsFollowing}
use Rattle.convoy_workflow_checker.proofs.causes.first_not_followed.Given as goal

abbrev pub invariant-loop-place : goal.invariant-loop-place
invariant-loop-place l = (k : ℕ) (d : Cause) → k < l.place → IsFollowing l.run.scenario l.run.schedule (get_or l.causes k d)
