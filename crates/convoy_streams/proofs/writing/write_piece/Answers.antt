use Rattle.std.proofs.Common.{arith}
use Rattle.convoy_streams.proofs.Pieces.{one_write}
use Rattle.convoy_streams.proofs.writing.write_piece.Goals as goal

pub returns : goal.returns
returns g c =
    one_write _ _ _ _ _ c.in_ok-count.ensures.answer (grind arith) (omega (arith, c.in_ok-count.ensures.within))
