use Rattle.std.proofs.Common.{◌<◌, ℕ}
use Rattle.std.specs.Prelude.{IsFalse}
use Rattle.convoy_plan_checker.specs.PlanCheckAnswers.{begins_at}
use Rattle.convoy_plan_checker.proofs.answering.parts_of.Given as goal

-- no certificate begins before the place
abbrev pub invariant-loop-place : goal.invariant-loop-place
invariant-loop-place l = (k : ℕ) → k < l.place → IsFalse (begins_at l.text k)
