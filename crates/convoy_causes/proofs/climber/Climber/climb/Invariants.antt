use Rattle.convoy_causes.specs.Climbing.{GoesOn}
use Rattle.convoy_causes.proofs.climber.Climber.climb.Given as goal

abbrev pub invariant-loop-stale : goal.invariant-loop-stale
invariant-loop-stale l = GoesOn l.question.instance.now l.question.causes.now l.question.origin l.fn.self l.self

abbrev pub decreases-loop-stale : goal.decreases-loop-stale
decreases-loop-stale l = l.self.left
