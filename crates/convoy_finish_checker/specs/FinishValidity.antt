-- What a certificate of finishes has to meet.
use Rattle.std.specs.Prelude.{◌≡◌, [], IsTrue}
use Rattle.convoy_finishes.specs.Finishes.{finish_latency}
use Rattle.convoy_finishes.specs.FinishClosing.{closes_finishing}
use Rattle.convoy_finish_checker.specs.declared.finish_certificate.FinishCertificate.{FinishCertificate}

-- It has no nodes. Under its schedule the finish latency is the stated one; and for that the scenario is closed.
pub record IsValidFinish (certificate : FinishCertificate) : Type 0 where
  pub tree : certificate.run.nodes ≡ []
  pub latency : finish_latency certificate.run.scenario certificate.ways certificate.run.schedule ≡ certificate.run.latency
  pub closed : IsTrue (closes_finishing certificate.run.scenario certificate.ways certificate.run.latency)
