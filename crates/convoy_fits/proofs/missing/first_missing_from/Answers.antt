use Rattle.std.proofs.Common.{length, arith}
use Rattle.convoy_fits.proofs.Compared.{missing_done, missing_more}
use Rattle.convoy_fits.proofs.missing.first_missing_from.Goals as goal

pub loop-message-preserved : goal.loop-message-preserved
loop-message-preserved c =
    rw (c.first_missing-first.ensures, c.destinations.ensures.value)
    (missing_more c.args.finer.now c.args.run.now c.args.told.now c.loop-message.first (length c.args.finer.now.multicasts) c.loop-message.message _ (omega arith)
    c.loop-message.invariant)

pub returns : goal.returns
returns c =
    missing_done c.args.finer.now c.args.run.now c.args.told.now c.loop-message.first (length c.args.finer.now.multicasts) c.loop-message.message _ (omega arith)
    c.loop-message.invariant
