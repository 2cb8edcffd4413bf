use Rattle.std.proofs.Common.{ℕ, ◌<◌, get_or}
use Rattle.convoy_causes.specs.declared.cause.Cause.{Cause}
use Rattle.convoy_causes.specs.Causes.{IsCause}
use Rattle.convoy_workflow_checker.proofs.causes.first_unknown.Given as goal

abbrev pub invariant-loop-place : goal.invariant-loop-place
invariant-loop-place l = (k : ℕ) (d : Cause) → k < l.place → IsCause l.scenario (get_or l.causes k d)
