use Rattle.std.proofs.Common.{◌∙◌, arith}
use Rattle.convoy_causes.proofs.Effects.{late_told}
use Rattle.convoy_causes.proofs.narrowing.Narrowing.is_late_shown.Goals as goal

pub returns : goal.returns
returns c =
    c.in_ok-shown.ensures
    ∙ late_told c.args.self.now.cutting.instance.now c.args.self.now.causes.now c.args.cause.now c.args.within c.args.windows.now c.args.goal.now c.in_ok-same.same c.in_ok-late.late c.in_ok-cut.cut _
    c.requires.goal c.in_ok-same.ensures
    (omega (arith, c.issue_tick-first.ensures.value, c.from.ensures, c.from-2.ensures, c.from-3.ensures)) c.in_ok-late.ensures c.in_ok-cut.ensures
