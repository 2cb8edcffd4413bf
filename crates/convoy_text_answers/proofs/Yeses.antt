-- What a yes for a scenario means, and what gets one.
use Rattle.std.proofs.Common.{◌≡◌, ◌∙◌, ap, refl, sym, ℕ, ◌<◌, ◌^◌, Bool, List, [], ◌∷◌, ◌++◌, append_assoc, get_or, arith, codes, decimal, Option, Some, Result, Ok}
use Rattle.convoy_lines.specs.Labels.{number_in}
use Rattle.convoy_lines.specs.LineLaws.{IsWord}
use Rattle.convoy_lines.specs.Places.{Lines, lines_in}
use Rattle.convoy_lines.specs.Texts.{number_line}
use Rattle.convoy_lines.proofs.LabelLemmas.{number_line_again}
use Rattle.convoy_lines.proofs.Spelling.{decimal_word, line_lacks}
use Rattle.convoy_lines.proofs.Splitting.{lines_after}
use Rattle.convoy_draft.specs.declared.duration.TimeUnit.{TimeUnit}
use Rattle.convoy_scenario.specs.Scenario.{Scenario}
use Rattle.convoy_certificate.specs.Certificate.{Certificate, IsCertificate}
use Rattle.convoy_certificate.specs.CertificateLaws.{TextsDiffer}
use Rattle.convoy_certificate.specs.Reading.{IsTextOf}
use Rattle.convoy_checker.specs.Validity.{IsValid}
use Rattle.convoy_commands.specs.declared.done.Done.{Done}
use Rattle.convoy_commands.specs.declared.done.Done.TheVariants.{Fine, Open, Beyond, Faulty, Refused, PlanRefused, WorkflowRefused, FinishRefused, Differs, Departs, NotChecked}
use Rattle.convoy_commands.specs.declared.fault.Fault.{Fault}
use Rattle.convoy_commands.specs.declared.asking.Asking.TheVariants.{Check}
use Rattle.convoy_commands.specs.Asks.{AskSays}
use Rattle.convoy_commands.specs.Checks.{IsAccepted}
use Rattle.convoy_commands.specs.ReplyLines.{accepted_line}
use Rattle.convoy_scenario.specs.declared.part.Part.{Part}
use Rattle.convoy_scenario.specs.declared.part.Part.TheVariants.{Time, Tick, Delay, Groups, Places, Links, Multicasts, Target}
use Rattle.convoy_text_answers.specs.Abouts.{IsAcceptedAbout, IsAcceptedAs, IsOfAnother, IsUnwanted, IsWanted}
use Rattle.convoy_text_answers.specs.CheckLaws.{YesIsGiven, YesIsGreatest}
use Rattle.convoy_text_answers.specs.AcceptedLines.{differs_line, told_if}
use Rattle.convoy_text_answers.proofs.Withins.{end_is}
use Rattle.convoy_scenario.specs.Differences.{AgreeIn}

-- the certificate that `check` accepts is the one with that text
pub same_certificate : TextsDiffer → (text line : List ℕ) (certificate : Certificate) → IsCertificate certificate →
    IsTextOf certificate text → (accepted : IsAccepted text line) → accepted.certificate ≡ certificate
same_certificate differ text line certificate is spelled accepted =
    differ accepted.certificate certificate accepted.lawful is (sym accepted.written.0 ∙ spelled.0)

-- a yes, where the scenario of the certificate is the one that is wanted
pub yes_about : (wanted : Option Scenario) (tells : Bool) (unit : Option TimeUnit) (text line out : List ℕ) (certificate : Certificate) →
    IsAcceptedAs certificate text line → IsWanted wanted certificate.scenario → out ≡ line ++ told_if tells unit certificate →
    IsAcceptedAbout wanted tells unit text out
yes_about wanted tells unit text line out certificate shown same written =
    record {
      line = line;
      accepted = shown.0;
      of_wanted = rw shown.1 same;
      written = written ∙ ap (λ (c : Certificate). line ++ told_if tells unit c) (sym shown.1);
    }

-- that it is another
pub other_about : (wanted : Option Scenario) (part : Part) (text line out : List ℕ) (certificate : Certificate) →
    IsAcceptedAs certificate text line → IsUnwanted wanted certificate.scenario part → out ≡ differs_line part →
    IsOfAnother wanted part text out
other_about wanted part text line out certificate shown differs written =
    record { line = line; accepted = shown.0; unwanted = rw shown.1 differs; written = written }

-- ---- the number of a yes

accepted_word : IsWord (codes "accepted")
accepted_word = record { some = omega arith; spaceless = refl; endless = refl }

-- the first line of a text
first_line : List ℕ → List ℕ
first_line text = get_or (lines_in text).ended 0 []

-- that of a yes, whatever stands below it
first_of_yes : (latency : ℕ) (below : List ℕ) → latency < 2 ^ 32 →
    first_line (accepted_line latency ++ below) ≡ number_line (codes "accepted") latency
unfolding first_line
first_of_yes latency below fits =
    let line : List ℕ = number_line (codes "accepted") latency in
    let lacks = line_lacks (codes "accepted") (decimal latency ∷ []) accepted_word.endless (decimal_word latency (omega (arith, fits)), tt) in
    ap first_line (append_assoc line (10 ∷ []) below) ∙ ap (λ (lines : Lines). get_or lines.ended 0 []) (lines_after line below lacks)

-- where two of them are one text, so are their numbers
same_number : (a b : ℕ) (below more : List ℕ) → a < 2 ^ 32 → b < 2 ^ 32 →
    accepted_line a ++ below ≡ accepted_line b ++ more → a ≡ b
same_number a b below more a_fits b_fits is =
    let line : number_line (codes "accepted") a ≡ number_line (codes "accepted") b =
    sym (first_of_yes a below a_fits) ∙ ap first_line is ∙ first_of_yes b more b_fits in
    let number : ◌≡◌ {A = Option ℕ} (Some a) (Some b) =
    sym (number_line_again (codes "accepted") a accepted_word (omega (arith, a_fits)))
    ∙ ap (number_in (codes "accepted")) line
    ∙ number_line_again (codes "accepted") b accepted_word (omega (arith, b_fits)) in
    cc

-- ---- the laws

pub yes_is_greatest : YesIsGreatest
yes_is_greatest scenario latency tells unit text below fits said =
    let certificate : Certificate = said.accepted.certificate in
    let begins : accepted_line latency ++ below ≡ accepted_line certificate.latency ++ told_if tells unit certificate =
    said.written ∙ ap (λ (line : List ℕ). line ++ told_if tells unit certificate) said.accepted.told in
    let number : latency ≡ certificate.latency =
    same_number latency certificate.latency below (told_if tells unit certificate) fits said.accepted.lawful.latency begins in
    rw (← number, said.of_wanted) at said.accepted.greatest

-- a scenario agrees with itself in each part
agree_with_itself : (scenario : Scenario) (part : Part) → AgreeIn scenario scenario part
agree_with_itself scenario Time = refl
agree_with_itself scenario Tick = refl
agree_with_itself scenario Delay = refl
agree_with_itself scenario Groups = refl
agree_with_itself scenario Places = refl
agree_with_itself scenario Links = refl
agree_with_itself scenario Multicasts = refl
agree_with_itself scenario Target = (refl, refl)

-- an answer that is neither a yes nor another scenario's is no yes
no_yes : (certificate : Certificate) (text out : List ℕ) (done : Done) → (done ≡ Fine → ⊥) → IsCertificate certificate → IsTextOf certificate text → IsValid certificate →
    AskSays Check text (Ok (done, out)) → ⊥
no_yes certificate text out done not is spelled valid said = not (end_is done Fine out _ (said.yes_given certificate is spelled valid))

pub yes_is_given : TextsDiffer → YesIsGiven
yes_is_given differ certificate tells unit text Fine out is spelled valid said =
    let same = same_certificate differ text said.line certificate is spelled said.accepted in (
      refl,
      said.written ∙ ap (λ (line : List ℕ). line ++ told_if tells unit said.accepted.certificate) said.accepted.told
          ∙ ap (λ (c : Certificate). accepted_line c.latency ++ told_if tells unit c) same,
    )
yes_is_given differ certificate tells unit text Open out is spelled valid said =
    absurd (no_yes certificate text out Open (λ is. cc) is spelled valid said)
yes_is_given differ certificate tells unit text Beyond out is spelled valid said =
    absurd (no_yes certificate text out Beyond (λ is. cc) is spelled valid said)
yes_is_given differ certificate tells unit text Faulty out is spelled valid said =
    absurd (no_yes certificate text out Faulty (λ is. cc) is spelled valid said)
yes_is_given differ certificate tells unit text (Refused refusal) out is spelled valid said =
    absurd (no_yes certificate text out (Refused refusal) (λ is. cc) is spelled valid said)
yes_is_given differ certificate tells unit text PlanRefused out is spelled valid said =
    absurd (no_yes certificate text out PlanRefused (λ is. cc) is spelled valid said)
yes_is_given differ certificate tells unit text WorkflowRefused out is spelled valid said =
    absurd (no_yes certificate text out WorkflowRefused (λ is. cc) is spelled valid said)
yes_is_given differ certificate tells unit text FinishRefused out is spelled valid said =
    absurd (no_yes certificate text out FinishRefused (λ is. cc) is spelled valid said)
yes_is_given differ certificate tells unit text Departs out is spelled valid said =
    absurd (no_yes certificate text out Departs (λ is. cc) is spelled valid said)
yes_is_given differ certificate tells unit text NotChecked out is spelled valid said =
    absurd (no_yes certificate text out NotChecked (λ is. cc) is spelled valid said)
yes_is_given differ certificate tells unit text (Differs part) out is spelled valid said =
    let same = same_certificate differ text said.line certificate is spelled said.accepted in
    absurd ((rw same at said.unwanted).differ (agree_with_itself certificate.scenario part))
