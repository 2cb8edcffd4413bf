use Rattle.std.proofs.Common.{◌<◌}
use Rattle.convoy_causes.proofs.question.Question.focus_count.Given as goal

abbrev pub invariant-loop-cause : goal.invariant-loop-cause
invariant-loop-cause l = 0 < l.count
