-- What is answered where no more steps may be taken than a limit.
use Rattle.std.proofs.Common.{◌≡◌, ◌⊎◌, ◌∙◌, ap, sym, subst, inl, inr, refl, arith, cond, nat_le, ℕ, Bool, true, false, List, Option, Some, None, Result, Ok, Err, IfOk, IfSome}
use Rattle.std.specs.Result.{result_map_both, result_transpose}
use Rattle.std.proofs.lemmas.Bool.{le-leb}
use Rattle.convoy_scenario.specs.Memory.{IsUnlessMemory}
use Rattle.convoy_certificate.specs.Certificate.{Certificate, IsCertificate}
use Rattle.convoy_certificate.specs.CertificateLaws.{TextsAreRead}
use Rattle.convoy_certificate.specs.Reading.{certificate_of, IsTextOf}
use Rattle.convoy_certificate.specs.declared.text_fault.TextFault.{TextFault}
use Rattle.convoy_certificate.specs.declared.text_fault.TextFault.TheVariants as texts
use Rattle.convoy_checker.specs.Checks.{checked}
use Rattle.convoy_checker.specs.TreeLaws.{CheckedIsValid}
use Rattle.convoy_checker.specs.Steps.{checked_within, steps_of}
use Rattle.convoy_checker.specs.Validity.{IsValid}
use Rattle.convoy_checker.specs.declared.refused.Refused.{Refused as Fault-of-check}
use Rattle.convoy_checker.specs.declared.refused.Refused.TheVariants as checks
use Rattle.convoy_checker.specs.declared.refusal.Refusal.TheVariants as refusals
use Rattle.convoy_sim.specs.Greatest.{IsGreatest}
use Rattle.convoy_commands.specs.declared.asking.Asking.{Asking}
use Rattle.convoy_commands.specs.declared.done.Done.{Done}
use Rattle.convoy_commands.specs.declared.done.Done.TheVariants.{Fine, NotChecked, Refused}
use Rattle.convoy_commands.specs.declared.fault.Fault.{Fault}
use Rattle.convoy_commands.specs.declared.fault.Fault.TheVariants.{Memory}
use Rattle.convoy_commands.specs.Asks.{AskSays, RepliesTo}
use Rattle.convoy_commands.specs.Checks.{reply_of_text}
use Rattle.convoy_commands.specs.ReplyLines.{not_checked_line}
use Rattle.convoy_commands.specs.Refusals.{refused_line, row_of_text}
use Rattle.convoy_commands.specs.Replies.{IsReply, Reply, Rule, SaysUnlessMemory}
use Rattle.convoy_commands.specs.Withins.{SaysIf, SaysWithin, steps_of_reading, steps_of_text}
use Rattle.convoy_commands.proofs.AskTexts.{checked_asked, refused_asked}

-- what a rule allows is allowed where it is to be answered
says_so : (b : Bool) (end : Done) (line text : List ℕ) (says : Rule) (reply : Reply) →
    b ≡ true → SaysUnlessMemory says text reply → SaysUnlessMemory (SaysIf b end line says) text reply
says_so true end line text says reply is said = said
says_so false end line text says reply is said = cc

-- a text that is no certificate takes no steps
no_steps : (read : Result Certificate TextFault) (fault : TextFault) (most : ℕ) → Err fault ≡ read → nat_le (steps_of_reading read) most ≡ true
no_steps (Ok certificate) fault most is = cc
no_steps (Err other) fault most is = le-leb 0 most (omega arith)

-- the reader refused the text
pub refused_within : TextsAreRead → CheckedIsValid → (limit : Option ℕ) (asking : Asking) (text : List ℕ) (fault : TextFault) (reply : Reply) →
    IsUnlessMemory texts.Memory (certificate_of text) (Err fault) → IsReply (reply_of_text (Err fault)) reply →
    SaysUnlessMemory (SaysWithin limit NotChecked (AskSays asking)) text reply
refused_within read_law check_law None asking text fault reply found told =
    refused_asked read_law check_law asking text fault reply found told
refused_within read_law check_law (Some most) asking text fault reply found (inr none) = inr none
refused_within read_law check_law (Some most) asking text fault reply (inr same) (inl told) =
    let none : fault ≡ texts.Memory = cc in inr (told ∙ rw none refl)
refused_within read_law check_law (Some most) asking text fault reply (inl found) (inl told) =
    says_so (nat_le (steps_of_text text) most) NotChecked (not_checked_line most) text (AskSays asking) reply
    (no_steps (certificate_of text) fault most found)
    (refused_asked read_law check_law asking text fault reply (inl found) (inl told))

-- a latency that the checker gave
pub said_so : (found : Option ℕ) (latency : ℕ) → found ≡ Some latency → result_transpose {T = ℕ} {E = Fault-of-check} (Ok found) ≡ Some (Ok latency)
said_so found latency is = rw is refl

-- an answer of the checker, where there is one, is what it says without a limit
mapped : (read : Result ℕ Fault-of-check) → result_transpose (result_map_both (λ latency. Some latency) (λ fault. fault) read) ≡ Some read
mapped (Ok latency) = refl
mapped (Err fault) = refl

said_is : (said other : Result ℕ Fault-of-check) → ◌≡◌ {A = Option (Result ℕ Fault-of-check)} (Some said) (Some other) → said ≡ other
said_is said other is = cc

unlimited : (read said : Result ℕ Fault-of-check) (answer : Result (Option ℕ) Fault-of-check) → result_transpose answer ≡ Some said →
    IsUnlessMemory checks.Memory (result_map_both (λ latency. Some latency) (λ fault. fault) read) answer → IsUnlessMemory checks.Memory read said
unlimited read said answer is (inl same) = inl (said_is said read (sym is ∙ ap result_transpose same ∙ mapped read))
unlimited read said answer is (inr none) = inr (said_is said (Err checks.Memory) (sym is ∙ ap result_transpose none))

-- what is known of an answer is known of what was said
known_of : (Known : ℕ → Type 0) (said : Result ℕ Fault-of-check) (answer : Result (Option ℕ) Fault-of-check) → result_transpose answer ≡ Some said →
    IfOk answer (λ latency. IfSome latency Known) → IfOk said Known
known_of Known said (Ok (Some latency)) is known = rw (said_is said (Ok latency) (sym is)) known
known_of Known said (Ok None) is known = cc
known_of Known said (Err fault) is known = rw (said_is said (Err fault) (sym is)) tt

-- the checker has no answer but for a limit
not_none : (read : Result ℕ Fault-of-check) (answer : Result (Option ℕ) Fault-of-check) → result_transpose answer ≡ None →
    IsUnlessMemory checks.Memory (result_map_both (λ latency. Some latency) (λ fault. fault) read) answer → ⊥
not_none read answer is (inl same) = let none = sym (mapped read) ∙ ap result_transpose (sym same) ∙ is in cc
not_none read answer is (inr none) = let wrong = ap result_transpose (sym none) ∙ is in cc

-- the reply to a certificate for want of memory
wants_memory : (asking : Asking) (certificate : Certificate) (said : Result ℕ Fault-of-check) (reply : Reply) → said ≡ Err checks.Memory →
    RepliesTo asking certificate said reply ⊎ (reply ≡ Err Memory) → reply ≡ Err Memory
wants_memory asking certificate (Ok latency) reply is told = cc
wants_memory asking certificate (Err checks.Memory) reply is (inl told) = told
wants_memory asking certificate (Err fault) reply is (inl told) = cc
wants_memory asking certificate (Err fault) reply is (inr none) = none

-- the checker gave an answer, where it may or may not be asked
asked_if : (b : Bool) (limit : ℕ) (asking : Asking) (text : List ℕ) (certificate : Certificate)
    (answer : Result (Option ℕ) Fault-of-check) (said : Result ℕ Fault-of-check) (reply : Reply) →
    result_transpose answer ≡ Some said →
    IsUnlessMemory checks.Memory (cond b (result_map_both (λ latency. Some latency) (λ fault. fault) (checked certificate)) (Ok None)) answer →
    RepliesTo asking certificate said reply ⊎ (reply ≡ Err Memory) →
    (IsUnlessMemory checks.Memory (checked certificate) said → SaysUnlessMemory (AskSays asking) text reply) →
    SaysUnlessMemory (SaysIf b NotChecked (not_checked_line limit) (AskSays asking)) text reply
asked_if true limit asking text certificate answer said reply is sound told asked =
    asked (unlimited (checked certificate) said answer is sound)
asked_if false limit asking text certificate answer said reply is (inl same) told asked =
    let none = sym is ∙ ap result_transpose same in cc
asked_if false limit asking text certificate answer said reply is (inr none) told asked =
    inr (wants_memory asking certificate said reply (said_is said (Err checks.Memory) (sym is ∙ ap result_transpose none)) told)

-- the reader read the certificate, and the checker gave an answer
pub checked_within_asked : TextsAreRead → CheckedIsValid → (limit : Option ℕ) (asking : Asking) (text : List ℕ) (certificate : Certificate)
    (answer : Result (Option ℕ) Fault-of-check) (said : Result ℕ Fault-of-check) (reply : Reply) →
    IsCertificate certificate → IsTextOf certificate text → certificate_of text ≡ Ok certificate →
    result_transpose answer ≡ Some said →
    IfOk answer (λ latency. IfSome latency (λ accepted. IsValid certificate × (accepted ≡ certificate.latency))) →
    IfOk answer (λ latency. IfSome latency (IsGreatest certificate.scenario)) →
    IsUnlessMemory checks.Memory (checked_within limit certificate) answer →
    RepliesTo asking certificate said reply ⊎ (reply ≡ Err Memory) →
    SaysUnlessMemory (SaysWithin limit NotChecked (AskSays asking)) text reply
checked_within_asked read_law check_law None asking text certificate answer said reply is_certificate spelled found is valid greatest sound told =
    checked_asked read_law check_law asking text certificate said reply is_certificate spelled (inl (sym found))
    (known_of (λ accepted. IsValid certificate × (accepted ≡ certificate.latency)) said answer is valid)
    (known_of (IsGreatest certificate.scenario) said answer is greatest)
    (unlimited (checked certificate) said answer is sound) told
checked_within_asked read_law check_law (Some most) asking text certificate answer said reply is_certificate spelled found is valid greatest sound told =
    let same : steps_of_text text ≡ steps_of certificate = ap steps_of_reading found in
    subst (λ (steps : ℕ). SaysUnlessMemory (SaysIf (nat_le steps most) NotChecked (not_checked_line most) (AskSays asking)) text reply) (sym same)
    (asked_if (nat_le (steps_of certificate) most) most asking text certificate answer said reply is sound told
    (λ unlimited_sound. checked_asked read_law check_law asking text certificate said reply is_certificate spelled (inl (sym found))
    (known_of (λ accepted. IsValid certificate × (accepted ≡ certificate.latency)) said answer is valid)
    (known_of (IsGreatest certificate.scenario) said answer is greatest)
    unlimited_sound told))

-- the checker gave none
none_if : (b : Bool) (limit : ℕ) (asking : Asking) (text : List ℕ) (certificate : Certificate)
    (answer : Result (Option ℕ) Fault-of-check) (reply : Reply) →
    result_transpose answer ≡ None →
    IsUnlessMemory checks.Memory (cond b (result_map_both (λ latency. Some latency) (λ fault. fault) (checked certificate)) (Ok None)) answer →
    IsReply (Ok (NotChecked, not_checked_line limit)) reply →
    SaysUnlessMemory (SaysIf b NotChecked (not_checked_line limit) (AskSays asking)) text reply
none_if true limit asking text certificate answer reply is sound told = absurd (not_none (checked certificate) answer is sound)
none_if false limit asking text certificate answer reply is sound told = told

pub not_checked_asked : (limit : Option ℕ) (asking : Asking) (text : List ℕ) (certificate : Certificate)
    (answer : Result (Option ℕ) Fault-of-check) (reply : Reply) →
    certificate_of text ≡ Ok certificate → result_transpose answer ≡ None →
    IsUnlessMemory checks.Memory (checked_within limit certificate) answer →
    ((most : ℕ) → limit ≡ Some most → IsReply (Ok (NotChecked, not_checked_line most)) reply) →
    SaysUnlessMemory (SaysWithin limit NotChecked (AskSays asking)) text reply
not_checked_asked None asking text certificate answer reply found is sound told = absurd (not_none (checked certificate) answer is sound)
not_checked_asked (Some most) asking text certificate answer reply found is sound told =
    let same : steps_of_text text ≡ steps_of certificate = ap steps_of_reading found in
    subst (λ (steps : ℕ). SaysUnlessMemory (SaysIf (nat_le steps most) NotChecked (not_checked_line most) (AskSays asking)) text reply) (sym same)
    (none_if (nat_le (steps_of certificate) most) most asking text certificate answer reply is sound (told most refl))

-- the end of a reply
end_of : Done → Reply → Done
end_of none (Ok (end, out)) = end
end_of none (Err fault) = none

-- an end that is another than that of what is not checked: the rule was asked
asked_when : (b : Bool) (end other : Done) (line text out : List ℕ) (says then : Rule) (reply : Reply) →
    (other ≡ end → ⊥) → SaysIf b end line says text (Ok (other, out)) → (says text (Ok (other, out)) → then text reply) →
    SaysIf b end line then text reply
unfolding end_of
asked_when true end other line text out says then reply not said next = next said
asked_when false end other line text out says then reply not said next = absurd (not (ap (end_of end) said))

pub asked_so : (limit : Option ℕ) (end other : Done) (text out : List ℕ) (says then : Rule) (reply : Reply) →
    (other ≡ end → ⊥) → SaysWithin limit end says text (Ok (other, out)) → (says text (Ok (other, out)) → then text reply) →
    SaysWithin limit end then text reply
asked_so None end other text out says then reply not said next = next said
asked_so (Some most) end other text out says then reply not said next =
    asked_when (nat_le (steps_of_text text) most) end other (not_checked_line most) text out says then reply not said next

-- what a rule allows is allowed by another that follows from it
kept_when : (b : Bool) (end : Done) (line text : List ℕ) (says then : Rule) (reply : Reply) →
    SaysIf b end line says text reply → (says text reply → then text reply) → SaysIf b end line then text reply
kept_when true end line text says then reply said next = next said
kept_when false end line text says then reply said next = said

pub kept_so : (limit : Option ℕ) (end : Done) (text : List ℕ) (says then : Rule) (reply : Reply) →
    SaysWithin limit end says text reply → (says text reply → then text reply) → SaysWithin limit end then text reply
kept_so None end text says then reply said next = next said
kept_so (Some most) end text says then reply said next =
    kept_when (nat_le (steps_of_text text) most) end (not_checked_line most) text says then reply said next

-- and an end that is another is one that the rule allows
says_when : (b : Bool) (end other : Done) (line text out : List ℕ) (says : Rule) →
    (other ≡ end → ⊥) → SaysIf b end line says text (Ok (other, out)) → says text (Ok (other, out))
unfolding end_of
says_when true end other line text out says not said = said
says_when false end other line text out says not said = absurd (not (ap (end_of end) said))

pub says_within : (limit : Option ℕ) (end other : Done) (text out : List ℕ) (says : Rule) →
    (other ≡ end → ⊥) → SaysWithin limit end says text (Ok (other, out)) → says text (Ok (other, out))
says_within None end other text out says not said = said
says_within (Some most) end other text out says not said =
    says_when (nat_le (steps_of_text text) most) end other (not_checked_line most) text out says not said

fault_when : (b : Bool) (end : Done) (line : List ℕ) (says : Rule) (text : List ℕ) (fault : Fault) →
    SaysIf b end line says text (Err fault) → says text (Err fault)
fault_when true end line says text fault said = said
fault_when false end line says text fault said = cc

-- a fault is one of the rule
pub fault_within : (limit : Option ℕ) (end : Done) (says : Rule) (text : List ℕ) (fault : Fault) →
    SaysWithin limit end says text (Err fault) → says text (Err fault)
fault_within None end says text fault said = said
fault_within (Some most) end says text fault said = fault_when (nat_le (steps_of_text text) most) end (not_checked_line most) says text fault said

-- A rule allows what else than a yes is answered to what is asked.
abbrev pub AllowsOthers : Asking → Rule → Type 0
AllowsOthers asking then =
    (text out : List ℕ) (done : Done) → (done ≡ Fine → ⊥) → AskSays asking text (Ok (done, out)) → then text (Ok (done, out))

-- it allows it within a limit of steps
pub others_as_asked : (limit : Option ℕ) (asking : Asking) (then : Rule) (text out : List ℕ) (done : Done) →
    AllowsOthers asking then → (done ≡ Fine → ⊥) →
    SaysUnlessMemory (SaysWithin limit NotChecked (AskSays asking)) text (Ok (done, out)) →
    SaysUnlessMemory (SaysWithin limit NotChecked then) text (Ok (done, out))
others_as_asked limit asking then text out done others not (inr none) = absurd cc
others_as_asked limit asking then text out done others not (inl said) =
    inl (kept_so limit NotChecked text (AskSays asking) then (Ok (done, out)) said (others text out done not))

-- and what is answered to a text of no certificate
pub refused_as_asked : (limit : Option ℕ) (asking : Asking) (then : Rule) (text : List ℕ) (fault : TextFault) (reply : Reply) →
    AllowsOthers asking then → IsReply (reply_of_text (Err fault)) reply →
    SaysUnlessMemory (SaysWithin limit NotChecked (AskSays asking)) text reply →
    SaysUnlessMemory (SaysWithin limit NotChecked then) text reply
refused_as_asked limit asking then text fault reply others told (inr none) = inr none
refused_as_asked limit asking then text fault reply others (inr none) said = inr none
refused_as_asked limit asking then text texts.Memory reply others (inl told) (inl said) = inr told
refused_as_asked limit asking then text fault reply others (inl told) (inl said) =
    inl (rw told (kept_so limit NotChecked text (AskSays asking) then (reply_of_text (Err fault)) (rw told at said) (others text (refused_line (row_of_text fault)) (Refused (refusals.Text fault)) (λ is. cc))))
