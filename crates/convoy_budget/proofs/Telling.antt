-- What rooms tell of their breadths.
use Rattle.std.proofs.Common.{◌≡◌, ℕ, ◌+◌, Bool, false, Result, Ok, Err, subst}
use Rattle.convoy_draft.specs.declared.fault.ScenarioFault.{ScenarioFault}
use Rattle.convoy_scenario.specs.Scenario.{Scenario}
use Rattle.convoy_branch.specs.Options.{Settings}
use Rattle.convoy_commands.specs.declared.verdict.Verdict.TheVariants.{Within, Beyond}
use Rattle.convoy_budget.specs.declared.kinds.Room.TheVariants.{Any, Until, AtLeast, Never, Unknown, OutOfMemory}
use Rattle.convoy_budget.specs.declared.kinds.Test.{Test}
use Rattle.convoy_budget.specs.declared.kinds.Widening.{Widening}
use Rattle.convoy_budget.specs.BudgetLaws.{IsBeyondAt, KeepsAt, RoomsTell}
use Rattle.convoy_budget.specs.Judging.{IsBeyond, IsJudged, IsVerdictBy, Keeps}
use Rattle.convoy_budget.specs.Ranges.{widened, widest}
use Rattle.convoy_budget.proofs.Verdicts.{beyond_by, keeps_by}

-- one result is one scenario
pub same_made : (made : Result Scenario ScenarioFault) (one other : Scenario) → made ≡ Ok one → made ≡ Ok other → one ≡ other
same_made (Ok made) one other is too = cc
same_made (Err fault) one other is too = absurd cc

module _ (settings : Settings) (test : Test) (scenario : Scenario) (widening : Widening) where
  pub kept_at : test.of_ceiling ≡ false → (breadth : ℕ) → IsJudged settings test scenario widening breadth Within → KeepsAt test.deadline scenario widening breadth
  kept_at searched breadth is instance made =
      subst (λ (s : Scenario). Keeps test.deadline s) (same_made (widened scenario widening breadth) is.instance instance is.made made)
      (keeps_by settings test.deadline is.instance (subst (λ (b : Bool). IsVerdictBy b settings test.deadline is.instance Within) searched is.judged))

  pub beyond_at : test.of_ceiling ≡ false → (breadth : ℕ) → IsJudged settings test scenario widening breadth Beyond → IsBeyondAt test.deadline scenario widening breadth
  beyond_at searched breadth is instance made =
      subst (λ (s : Scenario). IsBeyond test.deadline s) (same_made (widened scenario widening breadth) is.instance instance is.made made)
      (beyond_by settings test.deadline is.instance (subst (λ (b : Bool). IsVerdictBy b settings test.deadline is.instance Beyond) searched is.judged))

pub rooms_tell : RoomsTell
rooms_tell settings test scenario widening Any searched is = kept_at settings test scenario widening searched (widest scenario widening) is
rooms_tell settings test scenario widening (Until breadth) searched is =
    (kept_at settings test scenario widening searched breadth is.kept, beyond_at settings test scenario widening searched (breadth + 1) is.next)
rooms_tell settings test scenario widening (AtLeast breadth) searched is = kept_at settings test scenario widening searched breadth is.kept
rooms_tell settings test scenario widening Never searched is = beyond_at settings test scenario widening searched 0 is
rooms_tell settings test scenario widening Unknown searched is = tt
rooms_tell settings test scenario widening OutOfMemory searched is = tt
