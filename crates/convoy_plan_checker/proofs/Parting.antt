-- Places of a text at which no certificate begins.
use Rattle.std.proofs.Common.{◌+◌, ◌<◌, ◌≤◌, ℕ, List, inl, inr, sym, subst, arith}
use Rattle.std.specs.Prelude.{IsFalse}
use Rattle.std.proofs.Math.Nat.{eq-or-lt_of_le}
use Rattle.convoy_plan_checker.specs.PlanCheckAnswers.{begins_at}

-- where none begins before a place, nor at it, none begins up to it
pub none_up_to : (text : List ℕ) (place : ℕ) → ((k : ℕ) → k < place → IsFalse (begins_at text k)) → IsFalse (begins_at text place)
    → (k : ℕ) → k < place + 1 → IsFalse (begins_at text k)
none_up_to text place before here k less =
    let most : k ≤ place = omega arith in
    elim (eq-or-lt_of_le most) as (λ _. IsFalse (begins_at text k)) [
      | inl same ↦ subst (λ (n : ℕ). IsFalse (begins_at text n)) (sym same) here
      | inr lower ↦ before k lower
    ]
