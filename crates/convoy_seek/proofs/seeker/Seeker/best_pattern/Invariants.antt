use Rattle.convoy_seek.specs.Seeking.{GoesOn}
use Rattle.convoy_seek.proofs.seeker.Seeker.best_pattern.Given as goal

abbrev pub invariant-loop-number : goal.invariant-loop-number
invariant-loop-number l = GoesOn l.instance l.fn.self l.self
