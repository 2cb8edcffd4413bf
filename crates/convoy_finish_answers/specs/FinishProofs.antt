-- What `analyse` writes of a scenario whose groups are replicated by white box: a certificate of its greatest latency, or else what was found of that.
use Rattle.std.specs.Prelude.{◌≡◌, ◌⊎◌, ℕ, List, ◌++◌, Option, Ok, Err}
use Rattle.convoy_scenario.specs.Scenario.{Scenario}
use Rattle.convoy_scenario.specs.WellFormed.{IsScenario}
use Rattle.convoy_packets.specs.Assignment.{Schedule, IsAssignment}
use Rattle.convoy_certificate.specs.Certificate.{IsCertificate}
use Rattle.convoy_times.specs.declared.measure.Measure.{Measure}
use Rattle.convoy_toml.specs.declared.asked.Asked.{Asked}
use Rattle.convoy_finishes.specs.Finishes.{IsFinishReached, IsUpperOfFinishes, finish_latency}
use Rattle.convoy_branch.specs.Options.{Settings}
use Rattle.convoy_commands.specs.declared.done.Done.{Done}
use Rattle.convoy_commands.specs.declared.done.Done.TheVariants.{Fine, Open}
use Rattle.convoy_commands.specs.Measured.{measure_of_text}
use Rattle.convoy_commands.specs.ReplyLines.{open_line, schedule_text}
use Rattle.convoy_commands.specs.Replies.{Rule}
use Rattle.convoy_commands.specs.Verdicts.{judged, target_deadline}
use Rattle.convoy_finish_checker.specs.declared.finish_certificate.FinishCertificate.{FinishCertificate}
use Rattle.convoy_finish_checker.specs.FinishCheckLaws.{IsGreatestOfFinish}
use Rattle.convoy_finish_checker.specs.FinishTexts.{finish_certificate_text}
use Rattle.convoy_finish_checker.specs.FinishValidity.{IsValidFinish}
use Rattle.convoy_finish_answers.specs.declared.finishing.SoughtFinish.{SoughtFinish}
use Rattle.convoy_finish_answers.specs.AcceptedTexts.{AreWaysOf, IsNotAccepted, accepting}

-- THE HEADLINE. What is written is a certificate of the scenario that was read and of the ways by which its messages are finished: the certificate is valid, and the latency that it states is the greatest. How the command ends, the deadline of the target says where there is one.
pub record IsFinishProof (asked : Asked) (text : List ℕ) (end : Done) (out : List ℕ) : Type 0 where
  pub certificate : FinishCertificate
  pub lawful : IsCertificate certificate.run
  pub ways : AreWaysOf asked text certificate.run.scenario certificate.ways
  pub written : out ≡ finish_certificate_text certificate
  pub valid : IsValidFinish certificate
  pub greatest : IsGreatestOfFinish certificate
  pub ends : end
      ≡ judged (target_deadline (accepting asked) text certificate.run.scenario) certificate.run.latency certificate.run.latency Fine

-- What is written is that some run of the scenario that was read delivers its target after `least` ticks, where its messages are finished by those ways, and none later than after `most`, and below that the schedule of a run that has the least. How the command ends, the deadline of the target says where there is one.
pub record IsFinishFound (asked : Asked) (settings : Settings) (text : List ℕ) (end : Done) (out : List ℕ) : Type 0 where
  pub scenario : Scenario
  pub finish_ways : List ℕ
  pub least : ℕ
  pub most : ℕ
  pub schedule : Schedule
  pub ways : AreWaysOf asked text scenario finish_ways
  pub lawful : IsScenario scenario
  pub assigned : IsAssignment scenario schedule
  pub latency : finish_latency scenario finish_ways schedule ≡ least
  pub reached : IsFinishReached scenario finish_ways least
  pub safe : IsUpperOfFinishes scenario finish_ways most
  pub written : out ≡ open_line (measure_of_text settings.unit text scenario) least most ++ schedule_text scenario schedule
  pub ends : end ≡ judged (target_deadline (accepting asked) text scenario) least most Open

-- what `analyse` may answer of such a text
abbrev pub FinishProofSays : Asked → Settings → Rule
FinishProofSays asked settings text (Ok (end, out)) = IsFinishProof asked text end out ⊎ IsFinishFound asked settings text end out
FinishProofSays asked settings text (Err fault) = IsNotAccepted asked text fault

-- ---- words of the program's own parts: no promise rests on them
-- What is known once the greatest latency was sought: the run of a schedule has the least, and none exceeds the most.
pub record IsSought (scenario : Scenario) (ways : List ℕ) (sought : SoughtFinish) : Type 0 where
  pub assigned : IsAssignment scenario sought.schedule
  pub latency : sought.least ≡ finish_latency scenario ways sought.schedule
  pub reached : IsFinishReached scenario ways sought.least
  pub safe : IsUpperOfFinishes scenario ways sought.most

-- the certificate is valid, and states that latency
pub record IsProvedBy (certificate : FinishCertificate) (most : ℕ) : Type 0 where
  pub lawful : IsCertificate certificate.run
  pub valid : IsValidFinish certificate
  pub greatest : IsGreatestOfFinish certificate
  pub latency : certificate.run.latency ≡ most

-- how it ends for a run, by the certificate that it makes, and what is written: that, where it proves the latency, or else both numbers and the run's schedule
abbrev pub IsRunTold : Option Measure → FinishCertificate → ℕ → Done → List ℕ → Type 0
IsRunTold measure certificate most end out =
    ((end ≡ Fine) × (out ≡ finish_certificate_text certificate) × IsProvedBy certificate most)
    ⊎ ((end ≡ Open) × (out ≡ open_line measure certificate.run.latency most ++ schedule_text certificate.run.scenario certificate.run.schedule))
