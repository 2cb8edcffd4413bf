use Rattle.std.proofs.Common.{ℕ, ◌<◌, get_or}
use Rattle.convoy_causes.specs.declared.cause.Cause.{Cause}
use Rattle.convoy_causes.specs.Causes.{IsFollowing}
use Rattle.convoy_causes.proofs.caused_run.CausedRun.follow_all.Given as goal

abbrev pub invariant-loop-cause : goal.invariant-loop-cause
invariant-loop-cause l = (k : ℕ) (d : Cause) → k < l.cause-index → IsFollowing l.self.scenario l.self.schedule (get_or l.causes k d)
