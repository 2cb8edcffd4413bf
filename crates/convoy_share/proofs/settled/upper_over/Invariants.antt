use Rattle.std.proofs.Common.{ℕ, drop}
use Rattle.convoy_share.proofs.LeftUppers.{IsUpperOver}
use Rattle.convoy_share.proofs.settled.upper_over.Given as goal

abbrev pub invariant-loop-piece : goal.invariant-loop-piece
invariant-loop-piece l =
    (most : ℕ) → IsUpperOver l.fn.bounds l.origin l.upper (drop l.piece-index l.pieces) most → IsUpperOver l.fn.bounds l.origin l.seen l.pieces most
