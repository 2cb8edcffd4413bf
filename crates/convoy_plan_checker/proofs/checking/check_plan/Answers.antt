use Rattle.std.proofs.Common.{All, List, subst}
use Rattle.convoy_certificate.specs.Certificate.{Certificate, IsCertificate}
use Rattle.convoy_plan_checker.proofs.Stepping.{best_if_valid}
use Rattle.convoy_plan_checker.proofs.checking.check_plan.Goals as goal

pub returns-clause-best : goal.returns-clause-best
returns-clause-best c =
    best_if_valid c.valid_is_best.ensures c.args.wanted c.args.plan.now c.args.certificate.now c.check_parts.result c.group_count-count.ensures.lawful
    (subst (λ (shown : List Certificate). All IsCertificate shown) c.deref.ensures.value c.are_certificates.ensures) c.check_parts.ensures.valid
