use Rattle.convoy_causes.specs.Climbing.{GoesOn}
use Rattle.convoy_causes.proofs.climber.Climber.best_pattern.Given as goal

abbrev pub invariant-loop-number : goal.invariant-loop-number
invariant-loop-number l = GoesOn l.question.instance.now l.question.causes.now l.question.origin l.fn.self l.self
