-- What is answered of the text of a certificate of finishes.
use Rattle.std.specs.Prelude.{◌≡◌, ◌⊎◌, ℕ, Bool, true, false, List, ◌++◌, Option, Ok, Err}
use Rattle.convoy_draft.specs.declared.duration.TimeUnit.{TimeUnit}
use Rattle.convoy_certificate.specs.Certificate.{IsCertificate}
use Rattle.convoy_commands.specs.declared.done.Done.{Done}
use Rattle.convoy_commands.specs.declared.done.Done.TheVariants as ends
use Rattle.convoy_commands.specs.declared.fault.Fault.TheVariants.{Memory}
use Rattle.convoy_commands.specs.ReplyLines.{accepted_line}
use Rattle.convoy_commands.specs.Refusals.{refused_line}
use Rattle.convoy_commands.specs.Replies.{Reply, Rule}
use Rattle.convoy_text_answers.specs.AcceptedLines.{differs_line}
use Rattle.convoy_finish_checker.specs.declared.finish_certificate.FinishCertificate.{FinishCertificate}
use Rattle.convoy_finish_checker.specs.declared.finish_refusal.FinishRefusal.{FinishRefusal}
use Rattle.convoy_finish_checker.specs.FinishCheckLaws.{IsGreatestOfFinish}
use Rattle.convoy_finish_checker.specs.FinishRefusals.{row_of_refusal}
use Rattle.convoy_finish_checker.specs.FinishTexts.{finish_certificate_text}
use Rattle.convoy_finish_checker.specs.FinishValidity.{IsValidFinish}
use Rattle.convoy_workflow_replies.specs.declared.reference.Reference.{Reference}
use Rattle.convoy_finish_replies.specs.FinishExplanations.{finish_explained}
use Rattle.convoy_finish_replies.specs.FinishReferences.{DiffersFromWanted, IsOfWanted}

-- The text is that of this certificate, which is valid, and the latency that it states is the greatest of its scenario, where messages are finished by its ways.
pub record IsTextOfValid (text : List ℕ) (certificate : FinishCertificate) : Type 0 where
  pub lawful : IsCertificate certificate.run
  pub stands : text ≡ finish_certificate_text certificate
  pub valid : IsValidFinish certificate
  pub greatest : IsGreatestOfFinish certificate

-- The text is refused, and this is the line that tells why.
pub record IsFinishDenied (end : Done) (out : List ℕ) : Type 0 where
  pub refusal : FinishRefusal
  pub written : out ≡ refused_line (row_of_refusal refusal)
  pub ends : end ≡ ends.FinishRefused

-- THE HEADLINE. The text is that of a valid certificate of finishes, and what is written is why its latency is what it is.
pub record IsFinishExplained (unit : Option TimeUnit) (text : List ℕ) (end : Done) (out : List ℕ) : Type 0 where
  pub certificate : FinishCertificate
  pub accepted : IsTextOfValid text certificate
  pub written : out ≡ finish_explained unit certificate
  pub ends : end ≡ ends.Fine

-- what `explain` may answer: the one or the other
abbrev pub ExplainFinishSays : Option TimeUnit → Rule
ExplainFinishSays unit text (Ok (end, out)) = IsFinishExplained unit text end out ⊎ IsFinishDenied end out
ExplainFinishSays unit text (Err fault) = ⊥

-- the yes, and below it why the latency is what it is, where that is to be told
abbrev pub yes_text : Bool → Option TimeUnit → FinishCertificate → List ℕ
yes_text false unit certificate = accepted_line certificate.run.latency
yes_text true unit certificate = accepted_line certificate.run.latency ++ finish_explained unit certificate

-- how it ends for a valid certificate, and what is written: the yes where it is of what is wanted, if something is, and else the first part in which it differs from that
abbrev pub IsReplyToValid : Option Reference → Bool → Option TimeUnit → FinishCertificate → Done → List ℕ → Type 0
IsReplyToValid wanted tells unit certificate ends.Fine out = IsOfWanted wanted certificate × (out ≡ yes_text tells unit certificate)
IsReplyToValid wanted tells unit certificate (ends.Differs part) out = DiffersFromWanted wanted certificate part × (out ≡ differs_line part)
IsReplyToValid wanted tells unit certificate other out = ⊥

-- THE HEADLINE. The text is that of a valid certificate of finishes, and gets this answer.
pub record IsFinishChecked (wanted : Option Reference) (tells : Bool) (unit : Option TimeUnit) (text : List ℕ) (end : Done) (out : List ℕ) : Type 0 where
  pub certificate : FinishCertificate
  pub accepted : IsTextOfValid text certificate
  pub answer : IsReplyToValid wanted tells unit certificate end out

-- what `check` may answer: that, or a refusal
abbrev pub CheckFinishSays : Option Reference → Bool → Option TimeUnit → Rule
CheckFinishSays wanted tells unit text (Ok (end, out)) = IsFinishChecked wanted tells unit text end out ⊎ IsFinishDenied end out
CheckFinishSays wanted tells unit text (Err fault) = ⊥

-- a reply that refuses the text, or that memory ran out
abbrev pub IsDenial : Reply → Type 0
IsDenial (Ok (end, out)) = IsFinishDenied end out
IsDenial (Err fault) = fault ≡ Memory
