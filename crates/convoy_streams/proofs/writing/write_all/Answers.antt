use Rattle.std.proofs.Common.{refl, arith, append_assoc}
use Rattle.std.proofs.lemmas.Result.{err_from_is_err_and}
use Rattle.convoy_streams.proofs.Pieces.{no_pieces, one_more_piece, failed_writing}
use Rattle.convoy_streams.proofs.writing.write_all.Goals as goal

pub loop-rest-init : goal.loop-rest-init
loop-rest-init g c = record { bytes = _; count = _; moved = no_pieces _ _; whole = refl }

pub returns-in_err-rest : goal.returns-in_err-rest
returns-in_err-rest g c =
    let left = c.loop-rest.invariant in
    let returned = err_from_is_err_and c.from_residual.result c.from_residual.ensures.1 in
    rw returned.1
    (failed_writing _ _ _ _ left.bytes _ _ left.count left.moved c.in_err-rest.ensures left.whole (grind arith))

pub loop-rest-preserved : goal.loop-rest-preserved
loop-rest-preserved g c =
    let left = c.loop-rest.invariant in
    let wrote = c.in_ok-rest.ensures in
    record {
      bytes = _;
      count = _;
      moved = one_more_piece _ _ _ _ left.bytes _ left.count left.moved wrote.moved wrote.some;
      whole = rw (append_assoc, wrote.whole) left.whole;
    }
