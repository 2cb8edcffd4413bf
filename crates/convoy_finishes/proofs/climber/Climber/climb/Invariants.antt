use Rattle.convoy_finishes.specs.Climbing.{GoesOn}
use Rattle.convoy_finishes.proofs.climber.Climber.climb.Given as goal

abbrev pub invariant-loop-stale : goal.invariant-loop-stale
invariant-loop-stale l = GoesOn l.instance l.ways l.fn.self l.self

abbrev pub decreases-loop-stale : goal.decreases-loop-stale
decreases-loop-stale l = l.self.left
