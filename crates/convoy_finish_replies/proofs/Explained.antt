-- The explanation of a certificate of finishes, from what its parts are.
use Rattle.std.proofs.Common.{◌≡◌, ℕ, List, Option, None, ap, ◌∙◌}
use Rattle.convoy_draft.specs.declared.duration.TimeUnit.{TimeUnit}
use Rattle.convoy_scenario.specs.Scenario.{Scenario}
use Rattle.convoy_times.specs.Measures.{measure_by}
use Rattle.convoy_times.specs.declared.measure.Measure.{Measure}
use Rattle.convoy_packets.specs.Assignment.{Schedule}
use Rattle.convoy_finish_checker.specs.declared.finish_certificate.FinishCertificate.{FinishCertificate}
use Rattle.convoy_finish_replies.specs.FinishExplanations.{explained_by, finish_explained}

pub explained_so : (unit : Option TimeUnit) (certificate : FinishCertificate) (measure : Option Measure) (scenario : Scenario) (ways : List ℕ) (schedule : Schedule) (latency : ℕ) (out : List ℕ)
    → out ≡ explained_by measure scenario ways schedule latency → measure ≡ measure_by unit None scenario → scenario ≡ certificate.run.scenario
    → ways ≡ certificate.ways → schedule ≡ certificate.run.schedule → latency ≡ certificate.run.latency
    → out ≡ finish_explained unit certificate
explained_so unit certificate measure scenario ways schedule latency out told measured of_scenario of_ways of_schedule of_latency =
    told
    ∙ ap (λ (m : Option Measure). explained_by m scenario ways schedule latency) measured
    ∙ ap (λ (s : Scenario). explained_by (measure_by unit None s) s ways schedule latency) of_scenario
    ∙ ap (λ (w : List ℕ). explained_by (measure_by unit None certificate.run.scenario) certificate.run.scenario w schedule latency) of_ways
    ∙ ap (λ (s : Schedule). explained_by (measure_by unit None certificate.run.scenario) certificate.run.scenario certificate.ways s latency) of_schedule
    ∙ ap (λ (n : ℕ). explained_by (measure_by unit None certificate.run.scenario) certificate.run.scenario certificate.ways certificate.run.schedule n) of_latency
