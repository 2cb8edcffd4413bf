-- How far a search goes.
use Rattle.std.specs.Prelude.{◌≡◌, ℕ, ◌≤◌, false}
use Rattle.convoy_scenario.specs.Scenario.{Scenario}
use Rattle.convoy_branch.specs.declared.bounds.Bounds.{Bounds}
use Rattle.convoy_branch.specs.declared.limit.Limit.{Limit}
use Rattle.convoy_branch.specs.declared.outcome.Outcome.{Outcome}
use Rattle.convoy_branch.specs.Outcomes.{IsOutcome}

-- The answer of a search with that limit is one of a search that may spend so many tickets: as many as the limit says, or fewer, but that only where the search may be stopped.
pub record IsWithin (limit : Limit) (IsAnswer : ℕ → Type 0) : Type 0 where
  pub spendable : ℕ
  pub few : spendable ≤ limit.tickets
  pub all : limit.may_stop ≡ false → spendable ≡ limit.tickets
  pub answer : IsAnswer spendable

-- what a search of so many workers by those bounds answers, with that limit
abbrev pub IsOutcomeWithin : Bounds → Scenario → ℕ → Limit → Outcome → Type 0
IsOutcomeWithin bounds scenario workers limit outcome =
    IsWithin limit (λ tickets. IsOutcome bounds scenario workers tickets outcome)
