-- What `draw` answers, from what the reader and the checker answered.
use Rattle.std.proofs.Common.{◌≡◌, ◌⊎◌, ◌∙◌, ap, inl, inr, ℕ, List, Result, Ok, Err, IfOk, Option, refl, subst}
use Rattle.convoy_draft.specs.declared.duration.TimeUnit.{TimeUnit}
use Rattle.convoy_scenario.specs.Memory.{IsUnlessMemory}
use Rattle.convoy_certificate.specs.Certificate.{Certificate, IsCertificate}
use Rattle.convoy_certificate.specs.Reading.{certificate_of, IsTextOf}
use Rattle.convoy_certificate.specs.declared.text_fault.TextFault.{TextFault}
use Rattle.convoy_certificate.specs.declared.text_fault.TextFault.TheVariants as texts
use Rattle.convoy_checker.specs.Checks.{checked}
use Rattle.convoy_checker.specs.Validity.{IsValid}
use Rattle.convoy_sim.specs.Greatest.{IsGreatest}
use Rattle.convoy_checker.specs.declared.refused.Refused.{Refused as Fault-of-check}
use Rattle.convoy_checker.specs.declared.refused.Refused.TheVariants as checks
use Rattle.convoy_commands.specs.declared.done.Done.TheVariants.{Fine}
use Rattle.convoy_commands.specs.declared.fault.Fault.{Fault}
use Rattle.convoy_commands.specs.declared.fault.Fault.TheVariants.{Memory}
use Rattle.convoy_commands.specs.Checks.{check_reply, reply_of_check, reply_of_text}
use Rattle.convoy_commands.specs.Draws.{DrawSays, DrawsFor, IsDrawn, IsInPlaceOfYes, MeansDrawn}
use Rattle.convoy_commands.specs.Replies.{IsReply, Reply, SaysUnlessMemory}
use Rattle.convoy_commands.proofs.CheckTexts.{text_fault}
use Rattle.convoy_commands.proofs.NoDevice.{IsNoDevice}

-- a refusal of the text stands as it is, and is no image
refusal_stands : (fault : TextFault) → IsInPlaceOfYes (reply_of_text (Err fault)) (reply_of_text (Err fault))
refusal_stands texts.Memory = refl
refusal_stands fault = refl

no_image : (asked : Option TimeUnit) (text : List ℕ) (fault : TextFault) → MeansDrawn asked text (reply_of_text (Err fault))
no_image asked text texts.Memory = tt
no_image asked text fault = tt

-- the reader refused the text
pub refused_drawn : (asked : Option TimeUnit) (text : List ℕ) (fault : TextFault) (reply : Reply) →
    IsUnlessMemory texts.Memory (certificate_of text) (Err fault) → IsReply (reply_of_text (Err fault)) reply →
    SaysUnlessMemory (DrawSays asked) text reply
unfolding check_reply
refused_drawn asked text fault reply found (inr none) = inr none
refused_drawn asked text fault reply (inr same) (inl told) = let none : fault ≡ texts.Memory = cc in inr (told ∙ rw none refl)
refused_drawn asked text fault reply (inl found) (inl told) =
    inl (record {
      as_check = subst (λ said. IsInPlaceOfYes said reply) (ap reply_of_text found) (rw told (refusal_stands fault));
      means = rw told (no_image asked text fault);
    })

-- what is drawn for a certificate is drawn in place of a yes
in_place : (asked : Option TimeUnit) (certificate : Certificate) (said reply : Reply) → DrawsFor asked certificate said reply → IsInPlaceOfYes said reply
in_place asked certificate (Ok (Fine, line)) reply drawn = (drawn.0, drawn.1)
in_place asked certificate other reply drawn = drawn

-- an image means that the certificate is valid
means_drawn : (asked : Option TimeUnit) (text : List ℕ) (certificate : Certificate) (said : Result ℕ Fault-of-check) (reply : Reply) →
    IsCertificate certificate → IsTextOf certificate text →
    IfOk said (λ latency. IsValid certificate × (latency ≡ certificate.latency)) →
    IfOk said (λ latency. IsGreatest certificate.scenario latency) →
    DrawsFor asked certificate (reply_of_check said) reply → MeansDrawn asked text reply
means_drawn asked text certificate (Ok latency) reply is spelled valid greatest drawn =
    let made : IsDrawn asked text drawn.0 = record {
      certificate = certificate;
      lawful = is;
      written = spelled;
      valid = valid.0;
      greatest = rw valid.1 at greatest;
      drawn = drawn.2;
    } in
    rw drawn.1 made
means_drawn asked text certificate (Err checks.Memory) reply is spelled valid greatest drawn = rw drawn tt
means_drawn asked text certificate (Err fault) reply is spelled valid greatest drawn = rw drawn tt

-- the reader read the certificate, and the checker checked it
pub checked_drawn : (asked : Option TimeUnit) (text : List ℕ) (certificate : Certificate) (said : Result ℕ Fault-of-check) (reply : Reply) →
    IsCertificate certificate → IsTextOf certificate text →
    IsUnlessMemory texts.Memory (certificate_of text) (Ok certificate) →
    IfOk said (λ latency. IsValid certificate × (latency ≡ certificate.latency)) →
    IfOk said (λ latency. IsGreatest certificate.scenario latency) →
    IsUnlessMemory checks.Memory (checked certificate) said →
    DrawsFor asked certificate (reply_of_check said) reply ⊎ (reply ≡ Err Memory) → SaysUnlessMemory (DrawSays asked) text reply
unfolding check_reply
checked_drawn asked text certificate said reply is spelled found valid greatest sound (inr none) = inr none
checked_drawn asked text certificate said reply is spelled found valid greatest (inr none) (inl drawn) =
    inr (subst (λ s. DrawsFor asked certificate (reply_of_check s) reply) none drawn)
checked_drawn asked text certificate said reply is spelled (inr none) valid greatest (inl same) (inl drawn) = cc
checked_drawn asked text certificate said reply is spelled (inl found) valid greatest (inl same) (inl drawn) =
    inl (record {
      as_check = subst (λ s. IsInPlaceOfYes s reply) (ap reply_of_check same ∙ ap reply_of_text found)
          (in_place asked certificate (reply_of_check said) reply drawn);
      means = means_drawn asked text certificate said reply is spelled valid greatest drawn;
    })

-- a fault is that of `check`
same_fault : (said : Reply) (fault : Fault) → IsInPlaceOfYes said (Err fault) → Err fault ≡ said
same_fault (Ok (Fine, line)) fault placed = let none = placed.1 in cc
same_fault other fault placed = placed

pub draw_no_device : (asked : Option TimeUnit) (text : List ℕ) (fault : Fault) → DrawSays asked text (Err fault) → IsNoDevice fault
unfolding check_reply
draw_no_device asked text fault allowed =
    let none = text_fault (certificate_of text) fault (same_fault (reply_of_text (certificate_of text)) fault allowed.as_check) in
    rw none tt
