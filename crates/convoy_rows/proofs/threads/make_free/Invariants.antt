use Rattle.convoy_rows.specs.Rows.{AreRightPairs, IsMade}
use Rattle.convoy_rows.proofs.threads.make_free.Given as goal

-- each row so far is what may be answered for its number
abbrev pub invariant-loop : goal.invariant-loop
invariant-loop g l = AreRightPairs (IsMade (goal.F-post g l.make)) l.pairs.items
