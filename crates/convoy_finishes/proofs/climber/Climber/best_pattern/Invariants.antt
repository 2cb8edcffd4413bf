use Rattle.convoy_finishes.specs.Climbing.{GoesOn}
use Rattle.convoy_finishes.proofs.climber.Climber.best_pattern.Given as goal

abbrev pub invariant-loop-number : goal.invariant-loop-number
invariant-loop-number l = GoesOn l.instance l.ways l.fn.self l.self
