use Rattle.std.proofs.Common.{[], arith, lit<, refl}
use Rattle.std.proofs.lemmas.Bool.{eqb-true}
use Rattle.std.proofs.lemmas.Result.{err_from_is_err_and}
use Rattle.convoy_batches.proofs.BatchRuns.{by_failure, by_finish, by_reads, in_piece, no_blocks, nothing_read, one_more_read}
use Rattle.convoy_batches.proofs.batch.run_batch.Goals as goal

pub returns-in_err-batch : goal.returns-in_err-batch
returns-in_err-batch g c =
    let returned = err_from_is_err_and c.from_residual.result c.from_residual.ensures.1 in
    rw (returned.1, returned.2) (record { reads = []; writes = []; read = refl; few = omega arith; wrote = refl; outcome = (refl, refl) })

pub loop-init : goal.loop-init
loop-init g c = record {
  bytes = [];
  moved = nothing_read _ _;
  under = record {
    ready = record { wrote = no_blocks _ _ _ _ c.in_ok-batch.ensures.end; next = c.in_ok-batch.ensures.number; few = lit< tt };
    after = c.in_ok-batch.ensures.after;
  };
}

pub returns-in_default : goal.returns-in_default
returns-in_default g c =
    let so_far = c.loop.invariant in
    by_failure _ _ _ _ _ _ _ _ _ _ _ _ so_far.moved so_far.under (rw c.most_reads-most_reads.ensures at c.loop-test.true) c.in_default.ensures

pub returns-then-is_empty : goal.returns-then-is_empty
returns-then-is_empty g c =
    let so_far = c.loop.invariant in
    by_finish _ _ _ _ _ _ _ _ _ _ _ _ so_far.moved so_far.under (rw c.most_reads-most_reads.ensures at c.loop-test.true) _ _ _ c.in-Ok.ensures (eqb-true _ 0 (rw c.is_empty.ensures at c.if-is_empty.true)) (c.finish.ensures _ _ so_far.under)

pub returns-in_err-take_piece : goal.returns-in_err-take_piece
returns-in_err-take_piece g c =
    let so_far = c.loop.invariant in
    let returned = err_from_is_err_and c.from_residual-in_err-take_piece.result c.from_residual-in_err-take_piece.ensures.1 in
    rw (returned.1, returned.2)
    (in_piece _ _ _ _ _ _ _ _ _ _ _ _ so_far.moved so_far.under (rw c.most_reads-most_reads.ensures at c.loop-test.true) c.pieces_go_on.ensures _ _ _ c.in-Ok.ensures (grind arith) (c.in_err-take_piece.ensures _ _ so_far.under))

pub loop-preserved : goal.loop-preserved
loop-preserved g c =
    let so_far = c.loop.invariant in
    record {
      bytes = _;
      moved = one_more_read c.pieces_go_on.ensures _ _ _ _ _ _ _ so_far.moved c.in-Ok.ensures (grind arith);
      under = c.in_ok-take_piece.ensures _ _ so_far.under;
    }

pub returns : goal.returns
returns g c =
    let so_far = c.loop.invariant in
    by_reads _ _ _ _ _ _ _ _ _ _ _ so_far.moved so_far.under (omega (arith, c.most_reads-most_reads.ensures, c.loop-test.false, c.loop.auto.counter-end))
