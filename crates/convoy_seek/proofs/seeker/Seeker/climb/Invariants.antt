use Rattle.convoy_seek.specs.Seeking.{GoesOn}
use Rattle.convoy_seek.proofs.seeker.Seeker.climb.Given as goal

abbrev pub invariant-loop-stale : goal.invariant-loop-stale
invariant-loop-stale l = GoesOn l.instance l.fn.self l.self

abbrev pub decreases-loop-stale : goal.decreases-loop-stale
decreases-loop-stale l = l.self.left
