-- What the command `explain` writes.
use Rattle.std.specs.Prelude.{◌≡◌, ℕ, List, length, Option, Result, Ok, Err}
use Rattle.convoy_certificate.specs.Certificate.{Certificate, IsCertificate}
use Rattle.convoy_certificate.specs.Reading.{certificate_of, IsTextOf}
use Rattle.convoy_certificate.specs.declared.text_fault.TextFault.{TextFault}
use Rattle.convoy_checker.specs.Checks.{checked}
use Rattle.convoy_checker.specs.Validity.{IsValid}
use Rattle.convoy_timeline.specs.Causes.{explanation_of, stamp_explained}
use Rattle.convoy_timeline.specs.Explanations.{text_of}
use Rattle.convoy_sim.specs.Greatest.{IsGreatest}
use Rattle.convoy_commands.specs.declared.done.Done.TheVariants.{Fine}
use Rattle.convoy_commands.specs.Checks.{reply_of_check, reply_of_text}
use Rattle.convoy_commands.specs.Measured.{measure_of}
use Rattle.convoy_commands.specs.Replies.{Reply, Rule}
use Rattle.convoy_draft.specs.declared.duration.TimeUnit.{TimeUnit}

-- why the certificate's schedule has its latency, and why its target's stamp has its time, and that its nodes show that no other has a greater one
abbrev pub certificate_explained : Option TimeUnit → Certificate → List ℕ
certificate_explained asked certificate =
    text_of (measure_of asked certificate.scenario) certificate.scenario (explanation_of certificate.scenario certificate.schedule)
    (stamp_explained certificate.scenario certificate.schedule) (length certificate.nodes)

-- the explanation in place of a yes, and else what `check` says
abbrev pub in_place_of_yes : Option TimeUnit → Certificate → Reply → Reply
in_place_of_yes asked certificate (Ok (Fine, out)) = Ok (Fine, certificate_explained asked certificate)
in_place_of_yes asked certificate other = other

-- what is read is checked, and explained where the checker says yes; or else its text is refused
abbrev pub explained : Option TimeUnit → Result Certificate TextFault → Reply
explained asked (Ok certificate) = in_place_of_yes asked certificate (reply_of_check (checked certificate))
explained asked (Err fault) = reply_of_text (Err fault)

-- What is written for a text, with times in the unit that is asked for.
unfoldable pub explain_reply : Option TimeUnit → List ℕ → Reply
explain_reply asked text = explained asked (certificate_of text)

-- the text is that of a valid certificate, whose latency is the greatest of its scenario, and this is its explanation
pub record IsExplained (asked : Option TimeUnit) (text out : List ℕ) : Type 0 where
  pub certificate : Certificate
  pub lawful : IsCertificate certificate
  pub written : IsTextOf certificate text
  pub valid : IsValid certificate
  pub greatest : IsGreatest certificate.scenario certificate.latency
  pub told : out ≡ certificate_explained asked certificate

-- what an explanation means
abbrev pub MeansValid : Option TimeUnit → Rule
MeansValid asked text (Ok (Fine, out)) = IsExplained asked text out
MeansValid asked text other = Unit {0}

-- what `explain` may answer: just what is said above, where an explanation is of a valid certificate
pub record ExplainSays (asked : Option TimeUnit) (text : List ℕ) (reply : Reply) : Type 0 where
  pub exact : reply ≡ explain_reply asked text
  pub means : MeansValid asked text reply
