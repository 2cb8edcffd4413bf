-- What is answered for the text of a certificate of a scenario, where something else is wanted.
use Rattle.std.proofs.Common.{◌≡◌, inl, inr, refl, ℕ, List, Option, Ok}
use Rattle.convoy_scenario.specs.declared.part.Part.{Part}
use Rattle.convoy_commands.specs.declared.asking.Asking.TheVariants.{Check}
use Rattle.convoy_commands.specs.declared.done.Done.{Done}
use Rattle.convoy_commands.specs.declared.done.Done.TheVariants.{Fine, Open, Beyond, Faulty, Refused, PlanRefused, WorkflowRefused, FinishRefused, Differs, Departs, NotChecked}
use Rattle.convoy_commands.specs.Asks.{AskSays}
use Rattle.convoy_commands.specs.Replies.{SaysUnlessMemory}
use Rattle.convoy_commands.specs.Withins.{SaysWithin}
use Rattle.convoy_commands.proofs.WithinTexts.{AllowsOthers, asked_so, others_as_asked}
use Rattle.convoy_text_answers.specs.AcceptedLines.{differs_line}
use Rattle.convoy_text_answers.proofs.Withins.{never_differs, yes_within}
use Rattle.convoy_workflow_replies.specs.WorkflowChecks.{CheckOfOtherSays, IsOfOther}

-- a yes of `check` becomes that it is of nothing else
pub yes_against : (wanted : Part) (limit : Option ℕ) (text line out : List ℕ) →
    SaysUnlessMemory (SaysWithin limit NotChecked (AskSays Check)) text (Ok (Fine, line)) → out ≡ differs_line wanted →
    SaysUnlessMemory (SaysWithin limit NotChecked (CheckOfOtherSays wanted)) text (Ok (Differs wanted, out))
yes_against wanted limit text line out (inl said) written =
    let no : IsOfOther wanted wanted text out = record {
      line = line;
      accepted = yes_within limit text line (inl said);
      is_named = refl;
      written = written;
    } in
    inl (asked_so limit NotChecked Fine text line (AskSays Check) (CheckOfOtherSays wanted) (Ok (Differs wanted, out)) (λ is. cc) said (λ says. no))
yes_against wanted limit text line out (inr none) written = absurd cc

-- what is no yes is answered as by `check`
as_check : (wanted : Part) → AllowsOthers Check (CheckOfOtherSays wanted)
as_check wanted text out Fine not says = absurd (not refl)
as_check wanted text out Open not says = says
as_check wanted text out Beyond not says = says
as_check wanted text out Faulty not says = says
as_check wanted text out (Refused refusal) not says = says
as_check wanted text out PlanRefused not says = says
as_check wanted text out WorkflowRefused not says = says
as_check wanted text out FinishRefused not says = says
as_check wanted text out (Differs part) not says = absurd (never_differs text out part says)
as_check wanted text out Departs not says = says
as_check wanted text out NotChecked not says = says

pub others_against : (wanted : Part) (limit : Option ℕ) (text out : List ℕ) (done : Done) → (done ≡ Fine → ⊥) →
    SaysUnlessMemory (SaysWithin limit NotChecked (AskSays Check)) text (Ok (done, out)) →
    SaysUnlessMemory (SaysWithin limit NotChecked (CheckOfOtherSays wanted)) text (Ok (done, out))
others_against wanted limit text out done not said =
    others_as_asked limit Check (CheckOfOtherSays wanted) text out done (as_check wanted) not said
