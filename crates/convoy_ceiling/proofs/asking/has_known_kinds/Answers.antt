use Rattle.std.proofs.Common.{◌+◌, ◌<◌, ◌≤◌, ℕ, inl, inr, sym, subst, arith}
use Rattle.std.proofs.Math.Nat.{eq-or-lt_of_le}
use Rattle.std.proofs.lemmas.List.{get_or_default}
use Rattle.convoy_scenario.specs.Scenario.{Message, message_at, no_message}
use Rattle.convoy_ceiling.specs.Ceiling.{IsOfSomeKind}
use Rattle.convoy_ceiling.proofs.asking.has_known_kinds.Goals as goal

-- what holds below a number and of it holds up to it
one_more : (P : ℕ → Type 0) (n : ℕ) → ((k : ℕ) → k < n → P k) → P n → (k : ℕ) → k < n + 1 → P k
one_more P n below here k less =
    let most : k ≤ n = omega arith in
    elim (eq-or-lt_of_le most) as (λ _. P k) [
      | inl same ↦ subst P (sym same) here
      | inr lower ↦ below k lower
    ]

pub loop-message-preserved : goal.loop-message-preserved
loop-message-preserved c =
    one_more (λ (k : ℕ). IsOfSomeKind c.args.scenario.now (message_at c.args.traffic.now k)) c.loop-message.message c.loop-message.invariant
    (c.has_known_kind.ensures c.if-not-has_known_kind.false)

pub returns : goal.returns
returns c = λ yes k d below.
    subst (λ (m : Message). IsOfSomeKind c.args.scenario.now m) (sym (get_or_default c.args.traffic.now.multicasts k d no_message below))
    (c.loop-message.invariant k (omega arith))
