-- What `explain` answers, from what the reader and the checker answered.
use Rattle.std.proofs.Common.{◌≡◌, ◌∙◌, ap, inl, inr, ℕ, List, Result, Ok, Err, IfOk, Option, refl}
use Rattle.convoy_draft.specs.declared.duration.TimeUnit.{TimeUnit}
use Rattle.convoy_scenario.specs.Memory.{IsUnlessMemory}
use Rattle.convoy_certificate.specs.Certificate.{Certificate, IsCertificate}
use Rattle.convoy_certificate.specs.Reading.{certificate_of, IsTextOf}
use Rattle.convoy_certificate.specs.declared.text_fault.TextFault.{TextFault}
use Rattle.convoy_certificate.specs.declared.text_fault.TextFault.TheVariants as texts
use Rattle.convoy_checker.specs.Checks.{checked}
use Rattle.convoy_checker.specs.Validity.{IsValid}
use Rattle.convoy_sim.specs.Greatest.{IsGreatest}
use Rattle.convoy_checker.specs.declared.refused.Refused.{Refused as Fault-of-check}
use Rattle.convoy_checker.specs.declared.refused.Refused.TheVariants as checks
use Rattle.convoy_commands.specs.declared.fault.Fault.{Fault}
use Rattle.convoy_commands.specs.declared.fault.Fault.TheVariants.{Memory}
use Rattle.convoy_commands.specs.Checks.{reply_of_check, reply_of_text}
use Rattle.convoy_commands.specs.Explains.{ExplainSays, MeansValid, explain_reply, explained, in_place_of_yes}
use Rattle.convoy_commands.specs.Replies.{IsReply, Reply, SaysUnlessMemory}
use Rattle.convoy_commands.proofs.NoDevice.{IsNoDevice}

-- a refusal of the text explains nothing
no_explanation : (asked : Option TimeUnit) (text : List ℕ) (fault : TextFault) → MeansValid asked text (reply_of_text (Err fault))
no_explanation asked text texts.Memory = tt
no_explanation asked text fault = tt

-- the reader refused the text
pub refused_explained : (asked : Option TimeUnit) (text : List ℕ) (fault : TextFault) (reply : Reply) →
    IsUnlessMemory texts.Memory (certificate_of text) (Err fault) → IsReply (reply_of_text (Err fault)) reply →
    SaysUnlessMemory (ExplainSays asked) text reply
unfolding explain_reply
refused_explained asked text fault reply found (inr none) = inr none
refused_explained asked text fault reply (inr same) (inl told) = let none : fault ≡ texts.Memory = cc in inr (told ∙ rw none refl)
refused_explained asked text fault reply (inl found) (inl told) =
    inl (record { exact = told ∙ ap (explained asked) found; means = rw told (no_explanation asked text fault) })

-- an explanation means that the certificate is valid
means_valid : (asked : Option TimeUnit) (text : List ℕ) (certificate : Certificate) (said : Result ℕ Fault-of-check) →
    IsCertificate certificate → IsTextOf certificate text →
    IfOk said (λ latency. IsValid certificate × (latency ≡ certificate.latency)) →
    IfOk said (λ latency. IsGreatest certificate.scenario latency) →
    MeansValid asked text (in_place_of_yes asked certificate (reply_of_check said))
means_valid asked text certificate (Ok latency) is spelled valid greatest = record {
  certificate = certificate;
  lawful = is;
  written = spelled;
  valid = valid.0;
  greatest = rw valid.1 at greatest;
  told = refl;
}
means_valid asked text certificate (Err checks.Memory) is spelled valid greatest = tt
means_valid asked text certificate (Err fault) is spelled valid greatest = tt

-- the reader read the certificate, and the checker checked it
pub checked_explained : (asked : Option TimeUnit) (text : List ℕ) (certificate : Certificate) (said : Result ℕ Fault-of-check) (reply : Reply) →
    IsCertificate certificate → IsTextOf certificate text →
    IsUnlessMemory texts.Memory (certificate_of text) (Ok certificate) →
    IfOk said (λ latency. IsValid certificate × (latency ≡ certificate.latency)) →
    IfOk said (λ latency. IsGreatest certificate.scenario latency) →
    IsUnlessMemory checks.Memory (checked certificate) said →
    IsReply (in_place_of_yes asked certificate (reply_of_check said)) reply → SaysUnlessMemory (ExplainSays asked) text reply
unfolding explain_reply
checked_explained asked text certificate said reply is spelled found valid greatest sound (inr none) = inr none
checked_explained asked text certificate said reply is spelled found valid greatest (inr none) (inl told) =
    inr (told ∙ ap (λ s. in_place_of_yes asked certificate (reply_of_check s)) none)
checked_explained asked text certificate said reply is spelled (inr none) valid greatest (inl same) (inl told) = cc
checked_explained asked text certificate said reply is spelled (inl found) valid greatest (inl same) (inl told) =
    inl (record {
      exact = told ∙ ap (λ s. in_place_of_yes asked certificate (reply_of_check s)) same ∙ ap (explained asked) found;
      means = rw told (means_valid asked text certificate said is spelled valid greatest);
    })

-- a fault is want of memory
explained_fault : (asked : Option TimeUnit) (certificate : Certificate) (said : Result ℕ Fault-of-check) (fault : Fault) →
    Err fault ≡ in_place_of_yes asked certificate (reply_of_check said) → fault ≡ Memory
explained_fault asked certificate (Ok latency) fault is = cc
explained_fault asked certificate (Err checks.Memory) fault is = cc
explained_fault asked certificate (Err other) fault is = cc

read_fault : (asked : Option TimeUnit) (read : Result Certificate TextFault) (fault : Fault) → Err fault ≡ explained asked read → fault ≡ Memory
read_fault asked (Ok certificate) fault is = explained_fault asked certificate (checked certificate) fault is
read_fault asked (Err texts.Memory) fault is = cc
read_fault asked (Err other) fault is = cc

pub explain_no_device : (asked : Option TimeUnit) (text : List ℕ) (fault : Fault) → ExplainSays asked text (Err fault) → IsNoDevice fault
unfolding explain_reply
explain_no_device asked text fault allowed = let none = read_fault asked (certificate_of text) fault allowed.exact in rw none tt
