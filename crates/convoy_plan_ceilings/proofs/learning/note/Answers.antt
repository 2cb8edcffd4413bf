use Rattle.std.proofs.Common.{arith}
use Rattle.convoy_plan_ceilings.proofs.Noting.{noted}
use Rattle.convoy_plan_ceilings.proofs.learning.note.Goals as goal

pub returns-then-place-len : goal.returns-then-place-len
returns-then-place-len c =
    noted c.args._plan.now c.args.leasts.now.items c.args.from c.args.to c.args.least c.if-to-ge-MOST_SITES.false (omega (arith, c.len.ensures, c.if-place-len.true)) c.requires.is
    c.requires.leasts
