use Rattle.std.proofs.Common.{arith, length-append}
use Rattle.std.proofs.lemmas.Result.{err_from_is_err_and}
use Rattle.convoy_streams.proofs.Pieces.{one_more_piece, ended_by_text, ended_by_failure, ended_by_length, ended_by_memory}
use Rattle.convoy_streams.proofs.reading.read_to_end.Goals as goal

pub returns-in_default : goal.returns-in_default
returns-in_default g c =
    let all = c.loop.invariant in
    ended_by_failure _ _ _ _ _ _ _ _ all.moved all.short c.loop-test.true c.in_default.ensures

pub returns-then-is_empty : goal.returns-then-is_empty
returns-then-is_empty g c =
    let all = c.loop.invariant in
    ended_by_text _ _ _ _ _ _ _ _ all.moved all.short c.loop-test.true _ c.in-Ok.ensures (grind arith)

pub returns-then-piece-longest : goal.returns-then-piece-longest
returns-then-piece-longest g c =
    let all = c.loop.invariant in
    ended_by_length _ _ _ _ _ _ _ _ all.moved all.short c.loop-test.true _ c.in-Ok.ensures (omega arith)

pub returns-in_err-extend_from_slice : goal.returns-in_err-extend_from_slice
returns-in_err-extend_from_slice g c =
    let all = c.loop.invariant in
    let returned = err_from_is_err_and c.from_residual.result c.from_residual.ensures.1 in
    rw (returned.1, returned.2)
    (ended_by_memory _ _ _ _ _ _ _ _ all.moved all.short c.loop-test.true _ c.in-Ok.ensures (grind arith) (omega arith))

pub loop-preserved : goal.loop-preserved
loop-preserved g c =
    let all = c.loop.invariant in
    record {
      moved = rw c.in_ok-extend_from_slice.ensures.items (one_more_piece _ _ _ _ _ _ _ all.moved c.in-Ok.ensures (grind arith));
      short = rw (c.in_ok-extend_from_slice.ensures.items, length-append) (omega arith);
    }
