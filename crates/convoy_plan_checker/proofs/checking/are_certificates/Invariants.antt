use Rattle.std.proofs.Common.{All, take}
use Rattle.convoy_certificate.specs.Certificate.{IsCertificate}
use Rattle.convoy_plan_checker.proofs.checking.are_certificates.Given as goal

-- those so far are
abbrev pub invariant-loop-certificate : goal.invariant-loop-certificate
invariant-loop-certificate l = All IsCertificate (take l.certificate-index l.shown)
