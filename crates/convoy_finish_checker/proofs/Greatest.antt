-- What is valid is the greatest.
use Rattle.std.proofs.Common.{IfOk, Result, Ok, Err}
use Rattle.convoy_certificate.specs.Certificate.{IsCertificate}
use Rattle.convoy_finishes.specs.FinishLaws.{ClosedFinishing, MetUpperIsGreatest}
use Rattle.convoy_finish_checker.specs.declared.finish_certificate.FinishCertificate.{FinishCertificate}
use Rattle.convoy_finish_checker.specs.declared.finish_refused.FinishRefused.{FinishRefused}
use Rattle.convoy_finish_checker.specs.FinishCheckLaws.{IsGreatestOfFinish, ValidFinishIsGreatest}
use Rattle.convoy_finish_checker.specs.FinishValidity.{IsValidFinish}

pub valid_is_greatest : ClosedFinishing → MetUpperIsGreatest → ValidFinishIsGreatest
valid_is_greatest closed met certificate lawful valid =
    met certificate.run.scenario certificate.run.schedule certificate.ways certificate.run.latency lawful.scenario lawful.assigned valid.latency
    (closed certificate.run.scenario certificate.ways certificate.run.latency lawful.scenario valid.closed)

pub greatest_if_valid : ValidFinishIsGreatest → (certificate : FinishCertificate) (result : Result (Unit {0}) FinishRefused) → IsCertificate certificate.run
    → IfOk result (λ x. IsValidFinish certificate) → IfOk result (λ x. IsGreatestOfFinish certificate)
greatest_if_valid law certificate (Ok x) lawful valid = law certificate lawful valid
greatest_if_valid law certificate (Err refused) lawful valid = tt
