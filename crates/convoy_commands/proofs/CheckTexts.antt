-- What `check` answers, from what the reader and the checker answered.
use Rattle.std.proofs.Common.{◌≡◌, ◌∙◌, ap, inl, inr, ℕ, List, Result, Ok, Err, IfOk, refl}
use Rattle.convoy_scenario.specs.Memory.{IsUnlessMemory}
use Rattle.convoy_certificate.specs.Certificate.{Certificate, IsCertificate}
use Rattle.convoy_certificate.specs.Reading.{certificate_of, IsTextOf}
use Rattle.convoy_certificate.specs.CertificateLaws.{TextsAreRead}
use Rattle.convoy_certificate.specs.declared.text_fault.TextFault.{TextFault}
use Rattle.convoy_certificate.specs.declared.text_fault.TextFault.TheVariants as texts
use Rattle.convoy_checker.specs.Checks.{checked}
use Rattle.convoy_checker.specs.TreeLaws.{CheckedIsValid}
use Rattle.convoy_checker.specs.Validity.{IsValid}
use Rattle.convoy_sim.specs.Greatest.{IsGreatest}
use Rattle.convoy_checker.specs.declared.refused.Refused.{Refused as Fault-of-check}
use Rattle.convoy_checker.specs.declared.refused.Refused.TheVariants as checks
use Rattle.convoy_commands.specs.declared.fault.Fault.{Fault}
use Rattle.convoy_commands.specs.declared.fault.Fault.TheVariants.{Memory}
use Rattle.convoy_commands.specs.Checks.{CheckSays, GivesYes, MeansYes, check_reply, reply_of_check, reply_of_text}
use Rattle.convoy_commands.specs.ReplyLines.{accepted_line}
use Rattle.convoy_commands.specs.Replies.{IsReply, Reply, SaysUnlessMemory}
use Rattle.convoy_commands.proofs.Acceptance.{accepts}
use Rattle.convoy_commands.proofs.NoDevice.{IsNoDevice}

-- each valid certificate gets the yes
yes_given : TextsAreRead → CheckedIsValid → (text : List ℕ) (reply : Reply) → reply ≡ check_reply text → GivesYes text reply
yes_given read_law check_law text reply exact certificate is spelled valid =
    exact ∙ rw spelled.0 (accepts read_law check_law certificate is spelled.1 valid)

says : TextsAreRead → CheckedIsValid → (text : List ℕ) (reply : Reply) → reply ≡ check_reply text → MeansYes text reply → CheckSays text reply
says read_law check_law text reply exact yes_means =
    record { exact = exact; yes_means = yes_means; yes_given = yes_given read_law check_law text reply exact }

-- a refusal of the text is no yes
no_yes : (text : List ℕ) (fault : TextFault) → MeansYes text (reply_of_text (Err fault))
no_yes text texts.Memory = tt
no_yes text fault = tt

-- the reader refused the text, which is no yes
pub refused_says : TextsAreRead → CheckedIsValid → (text : List ℕ) (fault : TextFault) (reply : Reply) →
    IsUnlessMemory texts.Memory (certificate_of text) (Err fault) → IsReply (reply_of_text (Err fault)) reply →
    SaysUnlessMemory CheckSays text reply
unfolding check_reply
refused_says read_law check_law text fault reply found (inr none) = inr none
refused_says read_law check_law text fault reply (inr same) (inl told) = let none : fault ≡ texts.Memory = cc in inr (told ∙ rw none refl)
refused_says read_law check_law text fault reply (inl found) (inl told) =
    inl (says read_law check_law text reply (told ∙ ap reply_of_text found) (rw told (no_yes text fault)))

-- a yes of the checker means that the certificate is valid, and what is no yes means nothing
means_yes : (text : List ℕ) (certificate : Certificate) (said : Result ℕ Fault-of-check) →
    IsCertificate certificate → IsTextOf certificate text →
    IfOk said (λ latency. IsValid certificate × (latency ≡ certificate.latency)) →
    IfOk said (λ latency. IsGreatest certificate.scenario latency) → MeansYes text (reply_of_check said)
means_yes text certificate (Ok latency) is spelled valid greatest = record {
  certificate = certificate;
  lawful = is;
  written = spelled;
  valid = valid.0;
  greatest = rw valid.1 at greatest;
  told = ap accepted_line valid.1;
}
means_yes text certificate (Err checks.Memory) is spelled valid greatest = tt
means_yes text certificate (Err fault) is spelled valid greatest = tt

-- the reader read the certificate, and the checker checked it
pub checked_says : TextsAreRead → CheckedIsValid →
    (text : List ℕ) (certificate : Certificate) (said : Result ℕ Fault-of-check) (reply : Reply) →
    IsCertificate certificate → IsTextOf certificate text →
    IsUnlessMemory texts.Memory (certificate_of text) (Ok certificate) →
    IfOk said (λ latency. IsValid certificate × (latency ≡ certificate.latency)) →
    IfOk said (λ latency. IsGreatest certificate.scenario latency) →
    IsUnlessMemory checks.Memory (checked certificate) said →
    IsReply (reply_of_check said) reply → SaysUnlessMemory CheckSays text reply
unfolding check_reply
checked_says read_law check_law text certificate said reply is spelled found valid greatest sound (inr none) = inr none
checked_says read_law check_law text certificate said reply is spelled found valid greatest (inr none) (inl told) =
    inr (told ∙ ap reply_of_check none)
checked_says read_law check_law text certificate said reply is spelled (inr none) valid greatest (inl same) (inl told) = cc
checked_says read_law check_law text certificate said reply is spelled (inl found) valid greatest (inl same) (inl told) =
    inl (says read_law check_law text reply (told ∙ ap reply_of_check same ∙ ap reply_of_text found)
    (rw told (means_yes text certificate said is spelled valid greatest)))

-- a fault is want of memory
check_fault : (said : Result ℕ Fault-of-check) (fault : Fault) → Err fault ≡ reply_of_check said → fault ≡ Memory
check_fault (Ok latency) fault is = cc
check_fault (Err checks.Memory) fault is = cc
check_fault (Err other) fault is = cc

pub text_fault : (read : Result Certificate TextFault) (fault : Fault) → Err fault ≡ reply_of_text read → fault ≡ Memory
text_fault (Ok certificate) fault is = check_fault (checked certificate) fault is
text_fault (Err texts.Memory) fault is = cc
text_fault (Err other) fault is = cc

pub check_no_device : (text : List ℕ) (fault : Fault) → CheckSays text (Err fault) → IsNoDevice fault
unfolding check_reply
check_no_device text fault allowed = let none = text_fault (certificate_of text) fault allowed.exact in rw none tt
