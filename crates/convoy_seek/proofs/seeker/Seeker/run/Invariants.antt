use Rattle.convoy_seek.specs.Seeking.{GoesOn}
use Rattle.convoy_seek.proofs.seeker.Seeker.run.Given as goal

abbrev pub invariant-loop-round : goal.invariant-loop-round
invariant-loop-round l = GoesOn l.instance l.fn.self l.self
