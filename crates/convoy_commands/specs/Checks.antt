-- What the command `check` writes.
use Rattle.std.specs.Prelude.{◌≡◌, ℕ, List, Result, Ok, Err}
use Rattle.convoy_certificate.specs.Certificate.{Certificate, IsCertificate}
use Rattle.convoy_certificate.specs.Reading.{certificate_of, IsTextOf}
use Rattle.convoy_certificate.specs.declared.text_fault.TextFault.{TextFault}
use Rattle.convoy_certificate.specs.declared.text_fault.TextFault.TheVariants as texts
use Rattle.convoy_checker.specs.Checks.{checked}
use Rattle.convoy_checker.specs.Validity.{IsValid}
use Rattle.convoy_sim.specs.Greatest.{IsGreatest}
use Rattle.convoy_checker.specs.declared.refused.Refused.{Refused as Fault-of-check}
use Rattle.convoy_checker.specs.declared.refused.Refused.TheVariants as checks
use Rattle.convoy_checker.specs.declared.refusal.Refusal.TheVariants.{Text, Check}
use Rattle.convoy_commands.specs.declared.done.Done.TheVariants.{Fine, Refused}
use Rattle.convoy_commands.specs.declared.fault.Fault.TheVariants as faults
use Rattle.convoy_commands.specs.ReplyLines.{accepted_line}
use Rattle.convoy_commands.specs.Refusals.{row_of_text, row_of_check, refused_line}
use Rattle.convoy_commands.specs.Replies.{Reply, Rule}

-- a yes with the latency, or the refusal
abbrev pub reply_of_check : Result ℕ Fault-of-check → Reply
reply_of_check (Ok latency) = Ok (Fine, accepted_line latency)
reply_of_check (Err checks.Memory) = Err faults.Memory
reply_of_check (Err fault) = Ok (Refused (Check fault), refused_line (row_of_check fault))

-- what is read is checked; or else its text is refused
abbrev pub reply_of_text : Result Certificate TextFault → Reply
reply_of_text (Ok certificate) = reply_of_check (checked certificate)
reply_of_text (Err texts.Memory) = Err faults.Memory
reply_of_text (Err fault) = Ok (Refused (Text fault), refused_line (row_of_text fault))

-- What is written for a text: a yes, or else the first refusal, of the text and then of the certificate.
unfoldable pub check_reply : List ℕ → Reply
check_reply text = reply_of_text (certificate_of text)

-- the text is that of a valid certificate, whose latency is the greatest of its scenario, and this is the yes to it
pub record IsAccepted (text out : List ℕ) : Type 0 where
  pub certificate : Certificate
  pub lawful : IsCertificate certificate
  pub written : IsTextOf certificate text
  pub valid : IsValid certificate
  pub greatest : IsGreatest certificate.scenario certificate.latency
  pub told : out ≡ accepted_line certificate.latency

-- what a yes means
abbrev pub MeansYes : Rule
MeansYes text (Ok (Fine, out)) = IsAccepted text out
MeansYes text other = Unit {0}

-- the text of a valid certificate gets a yes
abbrev pub GivesYes : Rule
GivesYes text reply =
    (certificate : Certificate) → IsCertificate certificate → IsTextOf certificate text → IsValid certificate
    → reply ≡ Ok (Fine, accepted_line certificate.latency)

-- what `check` may answer: just what is said above, where a yes means that the certificate is valid, and each valid one gets it
pub record CheckSays (text : List ℕ) (reply : Reply) : Type 0 where
  pub exact : reply ≡ check_reply text
  pub yes_means : MeansYes text reply
  pub yes_given : GivesYes text reply
