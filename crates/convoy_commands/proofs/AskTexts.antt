-- What `check`, `explain` and `draw` answer, from what the reader and the checker answered.
use Rattle.std.proofs.Common.{◌≡◌, ◌⊎◌, ◌∙◌, ap, inl, inr, ℕ, List, Option, Result, Ok, Err, IfOk}
use Rattle.convoy_draft.specs.declared.duration.TimeUnit.{TimeUnit}
use Rattle.convoy_scenario.specs.Memory.{IsUnlessMemory}
use Rattle.convoy_certificate.specs.Certificate.{Certificate, IsCertificate}
use Rattle.convoy_certificate.specs.CertificateLaws.{TextsAreRead}
use Rattle.convoy_certificate.specs.Reading.{certificate_of, IsTextOf}
use Rattle.convoy_certificate.specs.declared.text_fault.TextFault.{TextFault}
use Rattle.convoy_certificate.specs.declared.text_fault.TextFault.TheVariants as texts
use Rattle.convoy_checker.specs.Checks.{checked}
use Rattle.convoy_checker.specs.TreeLaws.{CheckedIsValid}
use Rattle.convoy_checker.specs.Validity.{IsValid}
use Rattle.convoy_sim.specs.Greatest.{IsGreatest}
use Rattle.convoy_checker.specs.declared.refused.Refused.{Refused as Fault-of-check}
use Rattle.convoy_checker.specs.declared.refused.Refused.TheVariants as checks
use Rattle.convoy_commands.specs.declared.asking.Asking.{Asking}
use Rattle.convoy_commands.specs.declared.asking.Asking.TheVariants.{Check, Explain, Draw}
use Rattle.convoy_commands.specs.declared.done.Done.TheVariants.{Fine}
use Rattle.convoy_commands.specs.declared.fault.Fault.TheVariants.{Memory}
use Rattle.convoy_commands.specs.Asks.{AskSays, RepliesTo}
use Rattle.convoy_commands.specs.Checks.{reply_of_check, reply_of_text}
use Rattle.convoy_commands.specs.Draws.{DrawsFor}
use Rattle.convoy_commands.specs.Explains.{in_place_of_yes}
use Rattle.convoy_commands.specs.Replies.{IsReply, Reply, SaysUnlessMemory}
use Rattle.convoy_commands.proofs.CheckTexts.{checked_says, refused_says}
use Rattle.convoy_commands.proofs.DrawTexts.{checked_drawn, refused_drawn}
use Rattle.convoy_commands.proofs.ExplainTexts.{checked_explained, refused_explained}

-- the reply to each is that of its rule
as_checked : (certificate : Certificate) (said : Result ℕ Fault-of-check) (reply : Reply) →
    RepliesTo Check certificate said reply ⊎ (reply ≡ Err Memory) → IsReply (reply_of_check said) reply
as_checked certificate said reply (inr none) = inr none
as_checked certificate (Ok latency) reply (inl asked) = inl (asked.1 ∙ ap (λ out. Ok (Fine, out)) asked.2)
as_checked certificate (Err fault) reply (inl asked) = inl asked

as_explained : (asked : Option TimeUnit) (certificate : Certificate) (said : Result ℕ Fault-of-check) (reply : Reply) →
    RepliesTo (Explain asked) certificate said reply ⊎ (reply ≡ Err Memory) → IsReply (in_place_of_yes asked certificate (reply_of_check said)) reply
as_explained asked certificate said reply (inr none) = inr none
as_explained asked certificate (Ok latency) reply (inl told) = inl (told.1 ∙ ap (λ out. Ok (Fine, out)) told.2)
as_explained asked certificate (Err checks.Memory) reply (inl told) = inl told
as_explained asked certificate (Err fault) reply (inl told) = inl told

as_drawn : (asked : Option TimeUnit) (certificate : Certificate) (said : Result ℕ Fault-of-check) (reply : Reply) →
    RepliesTo (Draw asked) certificate said reply ⊎ (reply ≡ Err Memory) → DrawsFor asked certificate (reply_of_check said) reply ⊎ (reply ≡ Err Memory)
as_drawn asked certificate said reply (inr none) = inr none
as_drawn asked certificate (Ok latency) reply (inl drawn) = inl drawn
as_drawn asked certificate (Err checks.Memory) reply (inl drawn) = inl drawn
as_drawn asked certificate (Err fault) reply (inl drawn) = inl drawn

-- the reader refused the text
pub refused_asked : TextsAreRead → CheckedIsValid → (asking : Asking) (text : List ℕ) (fault : TextFault) (reply : Reply) →
    IsUnlessMemory texts.Memory (certificate_of text) (Err fault) → IsReply (reply_of_text (Err fault)) reply →
    SaysUnlessMemory (AskSays asking) text reply
refused_asked read_law check_law Check text fault reply found told = refused_says read_law check_law text fault reply found told
refused_asked read_law check_law (Explain asked) text fault reply found told = refused_explained asked text fault reply found told
refused_asked read_law check_law (Draw asked) text fault reply found told = refused_drawn asked text fault reply found told

-- the reader read the certificate, and the checker checked it
pub checked_asked : TextsAreRead → CheckedIsValid → (asking : Asking)
    (text : List ℕ) (certificate : Certificate) (said : Result ℕ Fault-of-check) (reply : Reply) →
    IsCertificate certificate → IsTextOf certificate text →
    IsUnlessMemory texts.Memory (certificate_of text) (Ok certificate) →
    IfOk said (λ latency. IsValid certificate × (latency ≡ certificate.latency)) →
    IfOk said (λ latency. IsGreatest certificate.scenario latency) →
    IsUnlessMemory checks.Memory (checked certificate) said →
    RepliesTo asking certificate said reply ⊎ (reply ≡ Err Memory) → SaysUnlessMemory (AskSays asking) text reply
checked_asked read_law check_law Check text certificate said reply is spelled found valid greatest sound told =
    checked_says read_law check_law text certificate said reply is spelled found valid greatest sound (as_checked certificate said reply told)
checked_asked read_law check_law (Explain asked) text certificate said reply is spelled found valid greatest sound told =
    checked_explained asked text certificate said reply is spelled found valid greatest sound (as_explained asked certificate said reply told)
checked_asked read_law check_law (Draw asked) text certificate said reply is spelled found valid greatest sound told =
    checked_drawn asked text certificate said reply is spelled found valid greatest sound (as_drawn asked certificate said reply told)
