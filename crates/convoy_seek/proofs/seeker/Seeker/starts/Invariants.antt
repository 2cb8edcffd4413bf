use Rattle.convoy_seek.specs.Seeking.{GoesOn}
use Rattle.convoy_seek.proofs.seeker.Seeker.starts.Given as goal

abbrev pub invariant-loop-rival : goal.invariant-loop-rival
invariant-loop-rival l = GoesOn l.instance l.fn.self l.self
