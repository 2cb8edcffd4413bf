use Rattle.convoy_wishes.specs.Wishing.{IsWishing}
use Rattle.convoy_wishes.proofs.wishing.wish.Given as goal

abbrev pub invariant-loop-keeping : goal.invariant-loop-keeping
invariant-loop-keeping l = IsWishing l.instance l.delay_box l.known l.wishing
