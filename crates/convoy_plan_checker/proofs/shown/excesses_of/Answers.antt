use Rattle.std.proofs.Common.{◌++◌, append-nil, sym, ap, ◌∙◌}
use Rattle.convoy_plan_checker.proofs.Stepping.{no_excess}
use Rattle.convoy_plan_checker.proofs.shown.excesses_of.Goals as goal

pub returns : goal.returns
returns c =
    sym (ap (λ es. c.loop-certificate.excesses.items ++ es) (no_excess c.loop-certificate.rest.now c.args.shown.now c.loop-certificate.certificate-index c.loop-certificate-test.false)
    ∙ append-nil c.loop-certificate.excesses.items)
    ∙ c.loop-certificate.invariant
