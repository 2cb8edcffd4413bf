use Rattle.convoy_wishes.specs.Wishing.{HasTried}
use Rattle.convoy_wishes.proofs.wishing.Wishing.try_keeping.Given as goal

abbrev pub invariant-loop-end : goal.invariant-loop-end
invariant-loop-end l = HasTried l.fn.self l.self
