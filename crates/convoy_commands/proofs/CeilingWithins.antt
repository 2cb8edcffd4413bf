-- What is answered with the ceiling below it.
use Rattle.std.proofs.Common.{inl, inr, refl, ℕ, List, Option, Ok}
use Rattle.convoy_draft.specs.declared.duration.TimeUnit.{TimeUnit}
use Rattle.convoy_commands.specs.declared.asking.Asking.TheVariants.{Explain}
use Rattle.convoy_commands.specs.declared.done.Done.{Done}
use Rattle.convoy_commands.specs.declared.done.Done.TheVariants.{Fine, Open, Beyond, Faulty, Refused, PlanRefused, WorkflowRefused, FinishRefused, Differs, Departs, NotChecked}
use Rattle.convoy_commands.specs.Replies.{Rule, SaysUnlessMemory}
use Rattle.convoy_commands.specs.WithCeilings.{ExplainWithCeilingSays}
use Rattle.convoy_commands.proofs.WithinTexts.{AllowsOthers}

-- what is answered with an end is what the rule allows
pub says_ended : (says : Rule) (text out : List ℕ) (done : Done) → SaysUnlessMemory says text (Ok (done, out)) → says text (Ok (done, out))
says_ended says text out done (inl said) = said
says_ended says text out done (inr none) = absurd cc

-- what is no explanation is answered as by `explain`
pub as_explained : (asked : Option TimeUnit) → AllowsOthers (Explain asked) (ExplainWithCeilingSays asked)
as_explained asked text out Fine not says = absurd (not refl)
as_explained asked text out Open not says = says
as_explained asked text out Beyond not says = says
as_explained asked text out Faulty not says = says
as_explained asked text out (Refused refusal) not says = says
as_explained asked text out PlanRefused not says = says
as_explained asked text out WorkflowRefused not says = says
as_explained asked text out FinishRefused not says = says
as_explained asked text out (Differs part) not says = says
as_explained asked text out Departs not says = says
as_explained asked text out NotChecked not says = says
