-- Two breadths, between which lies the greatest with which a deadline is kept.
use Rattle.std.specs.Prelude.{ℕ, ◌<◌, Bool, true, false, Ok, Result}
use Rattle.convoy_draft.specs.declared.fault.ScenarioFault.{ScenarioFault}
use Rattle.convoy_commands.specs.declared.verdict.Verdict.{Verdict}
use Rattle.convoy_commands.specs.declared.verdict.Verdict.TheVariants.{Beyond, Undecided}
use Rattle.convoy_commands.specs.declared.verdict.Verdict.TheVariants as verdicts
use Rattle.convoy_budget.specs.declared.searching.Bracket.{Bracket}

-- the verdict on a breadth with which the deadline is not kept, or is not known to be
abbrev pub verdict_if : Bool → Verdict
verdict_if true = Beyond
verdict_if false = Undecided

-- With the lesser the deadline is kept, and the greater has a verdict that says otherwise.
pub record IsBracket (may_answer : ℕ → Result Verdict ScenarioFault → Type 0) (bracket : Bracket) : Type 0 where
  pub apart : bracket.kept < bracket.wide
  pub kept : may_answer bracket.kept (Ok verdicts.Within)
  pub wide : may_answer bracket.wide (Ok (verdict_if bracket.is_beyond))
