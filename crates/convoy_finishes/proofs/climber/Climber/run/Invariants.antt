use Rattle.convoy_finishes.specs.Climbing.{GoesOn}
use Rattle.convoy_finishes.proofs.climber.Climber.run.Given as goal

abbrev pub invariant-loop-round : goal.invariant-loop-round
invariant-loop-round l = GoesOn l.instance l.ways l.fn.self l.self
