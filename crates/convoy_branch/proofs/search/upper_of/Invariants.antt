use Rattle.std.proofs.Common.{ℕ, drop}
use Rattle.convoy_branch.proofs.LeftBounds.{IsUpperOver}
use Rattle.convoy_branch.proofs.search.upper_of.Given as goal

abbrev pub invariant-loop-piece : goal.invariant-loop-piece
invariant-loop-piece l =
    (most : ℕ) → IsUpperOver l.fn.bounds l.origin l.upper (drop l.piece-index l.work) most → IsUpperOver l.fn.bounds l.origin l.seen l.work most
