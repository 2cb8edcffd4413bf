use Rattle.convoy_causes.specs.Climbing.{GoesOn}
use Rattle.convoy_causes.proofs.climber.Climber.run.Given as goal

abbrev pub invariant-loop-round : goal.invariant-loop-round
invariant-loop-round l = GoesOn l.question.instance.now l.question.causes.now l.question.origin l.fn.self l.self
