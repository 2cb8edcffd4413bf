-- What is proved of certificates of finishes. It is the one clause of the function of its name in the crate's module `finish_check_laws`.
use Rattle.convoy_certificate.specs.Certificate.{IsCertificate}
use Rattle.convoy_finishes.specs.Finishes.{IsGreatestFinish}
use Rattle.convoy_finish_checker.specs.declared.finish_certificate.FinishCertificate.{FinishCertificate}
use Rattle.convoy_finish_checker.specs.FinishValidity.{IsValidFinish}

-- the latency that it states is the greatest of its scenario, where messages are finished by its ways
abbrev pub IsGreatestOfFinish : FinishCertificate → Type 0
IsGreatestOfFinish certificate = IsGreatestFinish certificate.run.scenario certificate.ways certificate.run.latency

-- The latency of a valid certificate is so, whoever made the certificate.
abbrev pub ValidFinishIsGreatest : Type 0
ValidFinishIsGreatest =
    (certificate : FinishCertificate) → IsCertificate certificate.run → IsValidFinish certificate → IsGreatestOfFinish certificate
