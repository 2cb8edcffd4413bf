use Rattle.convoy_seek.specs.Seeking.{GoesOn}
use Rattle.convoy_seek.proofs.seeker.Seeker.prune.Given as goal

abbrev pub invariant-loop-i : goal.invariant-loop-i
invariant-loop-i l = GoesOn l.instance l.fn.self l.self
