use Rattle.std.proofs.Common.{All, List, get_or, take, take_all, sym, subst}
use Rattle.std.proofs.lemmas.List.{take_more}
use Rattle.std.proofs.lemmas.List.Elements.{All-push}
use Rattle.convoy_certificate.specs.Certificate.{Certificate, IsCertificate}
use Rattle.convoy_plan_checker.proofs.checking.are_certificates.Goals as goal

pub loop-certificate-preserved : goal.loop-certificate-preserved
loop-certificate-preserved c =
    let shown : List Certificate = c.args.shown.now in
    let one : Certificate = c.certificate-item.result in
    subst (λ (cs : List Certificate). All IsCertificate cs) (sym (take_more shown c.loop-certificate.certificate-index one c.loop-certificate-test.true))
    (All-push IsCertificate (take c.loop-certificate.certificate-index shown) (get_or shown c.loop-certificate.certificate-index one) c.loop-certificate.invariant
    (subst IsCertificate c.certificate-item.is c.nodes-nodes.ensures.lawful))

pub returns : goal.returns
returns c =
    subst (λ (cs : List Certificate). All IsCertificate cs) (take_all c.loop-certificate.certificate-index c.args.shown.now c.loop-certificate-test.false)
    c.loop-certificate.invariant
