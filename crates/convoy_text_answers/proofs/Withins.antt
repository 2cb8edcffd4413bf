-- What is answered for a scenario where the steps of a check are limited.
use Rattle.std.proofs.Common.{◌≡◌, ap, inl, inr, refl, sym, ◌∙◌, ℕ, Bool, List, Option, Result, Ok, Err}
use Rattle.convoy_draft.specs.declared.duration.TimeUnit.{TimeUnit}
use Rattle.convoy_scenario.specs.Scenario.{Scenario}
use Rattle.convoy_scenario.specs.declared.part.Part.{Part}
use Rattle.convoy_certificate.specs.Certificate.{Certificate, IsCertificate}
use Rattle.convoy_certificate.specs.CertificateLaws.{TextsDiffer}
use Rattle.convoy_certificate.specs.Reading.{IsTextOf, certificate_of}
use Rattle.convoy_certificate.specs.declared.text_fault.TextFault.{TextFault}
use Rattle.convoy_certificate.specs.declared.text_fault.TextFault.TheVariants as texts
use Rattle.convoy_checker.specs.Checks.{checked}
use Rattle.convoy_checker.specs.declared.refused.Refused.{Refused as Fault-of-check}
use Rattle.convoy_checker.specs.declared.refused.Refused.TheVariants as checks
use Rattle.convoy_checker.specs.declared.refusal.Refusal.TheVariants as refusals
use Rattle.convoy_commands.specs.declared.asking.Asking.TheVariants.{Check}
use Rattle.convoy_commands.specs.declared.done.Done.{Done}
use Rattle.convoy_commands.specs.declared.done.Done.TheVariants.{Fine, Open, Beyond, Faulty, Refused, PlanRefused, WorkflowRefused, FinishRefused, Differs, Departs, NotChecked}
use Rattle.convoy_commands.specs.Asks.{AskSays}
use Rattle.convoy_commands.specs.Checks.{IsAccepted, check_reply, reply_of_check, reply_of_text}
use Rattle.convoy_commands.specs.Replies.{IsReply, Reply, SaysUnlessMemory}
use Rattle.convoy_commands.specs.Withins.{SaysWithin}
use Rattle.convoy_commands.proofs.WithinTexts.{AllowsOthers, asked_so, refused_as_asked, others_as_asked, says_within}
use Rattle.convoy_text_answers.specs.Abouts.{CheckAboutSays, IsAcceptedAs}

-- a yes of `check` is one of a valid certificate
pub yes_within : (limit : Option ℕ) (text line : List ℕ) →
    SaysUnlessMemory (SaysWithin limit NotChecked (AskSays Check)) text (Ok (Fine, line)) → IsAccepted text line
yes_within limit text line (inl said) = (says_within limit NotChecked Fine text line (AskSays Check) (λ is. cc) said).yes_means
yes_within limit text line (inr none) = absurd cc

-- what is answered to it
pub about_within : (limit : Option ℕ) (wanted : Option Scenario) (tells : Bool) (unit : Option TimeUnit) (text line : List ℕ) (reply : Reply) →
    SaysUnlessMemory (SaysWithin limit NotChecked (AskSays Check)) text (Ok (Fine, line)) → CheckAboutSays wanted tells unit text reply →
    SaysUnlessMemory (SaysWithin limit NotChecked (CheckAboutSays wanted tells unit)) text reply
about_within limit wanted tells unit text line reply (inl said) about =
    inl (asked_so limit NotChecked Fine text line (AskSays Check) (CheckAboutSays wanted tells unit) reply (λ is. cc) said (λ says. about))
about_within limit wanted tells unit text line reply (inr none) about = absurd cc

-- the end of a reply
pub end_is : (done other : Done) (out line : List ℕ) → ◌≡◌ {A = Reply} (Ok (done, out)) (Ok (other, line)) → done ≡ other
end_is done other out line is =
    let pair : ◌≡◌ {A = Done × List ℕ} (done, out) (other, line) = cc in ap (λ (reply : Done × List ℕ). reply.0) pair

-- `check` never finds a certificate to be of another scenario
never_checked : (said : Result ℕ Fault-of-check) (part : Part) (out : List ℕ) → Ok (Differs part, out) ≡ reply_of_check said → ⊥
never_checked (Ok latency) part out is = let none : Differs part ≡ Fine = end_is (Differs part) Fine out _ is in cc
never_checked (Err checks.Memory) part out is = cc
never_checked (Err fault) part out is = let none : Differs part ≡ Refused (refusals.Check fault) = end_is (Differs part) (Refused (refusals.Check fault)) out _ is in cc

never_read : (read : Result Certificate TextFault) (part : Part) (out : List ℕ) → Ok (Differs part, out) ≡ reply_of_text read → ⊥
never_read (Ok certificate) part out is = never_checked (checked certificate) part out is
never_read (Err texts.Memory) part out is = cc
never_read (Err fault) part out is = let none : Differs part ≡ Refused (refusals.Text fault) = end_is (Differs part) (Refused (refusals.Text fault)) out _ is in cc

pub never_differs : (text out : List ℕ) (part : Part) → AskSays Check text (Ok (Differs part, out)) → ⊥
unfolding check_reply
never_differs text out part says = never_read (certificate_of text) part out says.exact

-- what is answered to the certificate of that text, where it is accepted
pub answered_within : TextsDiffer → (limit : Option ℕ) (wanted : Option Scenario) (tells : Bool) (unit : Option TimeUnit) (text line : List ℕ) (certificate : Certificate) (reply : Reply) →
    IsCertificate certificate → IsTextOf certificate text →
    SaysUnlessMemory (SaysWithin limit NotChecked (AskSays Check)) text (Ok (Fine, line)) →
    (IsAcceptedAs certificate text line → CheckAboutSays wanted tells unit text reply) →
    SaysUnlessMemory (SaysWithin limit NotChecked (CheckAboutSays wanted tells unit)) text reply
answered_within differ limit wanted tells unit text line certificate reply is spelled said about =
    let accepted = yes_within limit text line said in
    about_within limit wanted tells unit text line reply said
    (about (accepted, differ accepted.certificate certificate accepted.lawful is (sym accepted.written.0 ∙ spelled.0)))

-- what is neither a yes nor another scenario's is answered as by `check`
as_check : (wanted : Option Scenario) (tells : Bool) (unit : Option TimeUnit) → AllowsOthers Check (CheckAboutSays wanted tells unit)
as_check wanted tells unit text out Fine not says = absurd (not refl)
as_check wanted tells unit text out Open not says = says
as_check wanted tells unit text out Beyond not says = says
as_check wanted tells unit text out Faulty not says = says
as_check wanted tells unit text out (Refused refusal) not says = says
as_check wanted tells unit text out PlanRefused not says = says
as_check wanted tells unit text out WorkflowRefused not says = says
as_check wanted tells unit text out FinishRefused not says = says
as_check wanted tells unit text out (Differs part) not says = absurd (never_differs text out part says)
as_check wanted tells unit text out Departs not says = says
as_check wanted tells unit text out NotChecked not says = says

pub others_within : (limit : Option ℕ) (wanted : Option Scenario) (tells : Bool) (unit : Option TimeUnit) (text out : List ℕ) (done : Done) → (done ≡ Fine → ⊥) →
    SaysUnlessMemory (SaysWithin limit NotChecked (AskSays Check)) text (Ok (done, out)) →
    SaysUnlessMemory (SaysWithin limit NotChecked (CheckAboutSays wanted tells unit)) text (Ok (done, out))
others_within limit wanted tells unit text out done not said =
    others_as_asked limit Check (CheckAboutSays wanted tells unit) text out done (as_check wanted tells unit) not said

-- and so is a text of no certificate
pub refused_about : (limit : Option ℕ) (wanted : Option Scenario) (tells : Bool) (unit : Option TimeUnit) (text : List ℕ) (fault : TextFault) (reply : Reply) →
    IsReply (reply_of_text (Err fault)) reply →
    SaysUnlessMemory (SaysWithin limit NotChecked (AskSays Check)) text reply →
    SaysUnlessMemory (SaysWithin limit NotChecked (CheckAboutSays wanted tells unit)) text reply
refused_about limit wanted tells unit text fault reply told said =
    refused_as_asked limit Check (CheckAboutSays wanted tells unit) text fault reply (as_check wanted tells unit) told said
