use Rattle.std.proofs.Common.{ℕ, ◌+◌, ◌<◌, ◌≤◌, IsTrue, inl, inr, sym, subst, string_bytes, arith}
use Rattle.std.proofs.Math.Nat.{eq-or-lt_of_le}
use Rattle.convoy_scenario.specs.Scenario.{may_wait, message_at}
use Rattle.convoy_timeline.specs.Explanations.{window_text}
use Rattle.convoy_draw.specs.Drawings.{Tells}
use Rattle.convoy_draw.proofs.Telling.{tells_before, tells_after}
use Rattle.convoy_draw.proofs.windows.windows.Goals as goal

-- what holds below a number and of it holds up to it
one_more : (P : ℕ → Type 0) (n : ℕ) → ((k : ℕ) → k < n → P k) → P n → (k : ℕ) → k < n + 1 → P k
one_more P n below here k less =
    let most : k ≤ n = omega arith in
    elim (eq-or-lt_of_le most) as (λ _. P k) [
      | inl same ↦ subst P (sym same) here
      | inr lower ↦ below k lower
    ]

pub loop-message-preserved : goal.loop-message-preserved
loop-message-preserved c =
    let plan = c.args.scene.now.scenario.now in
    one_more (λ (m : ℕ). IsTrue (may_wait (message_at plan m)) → Tells (window_text plan m) (string_bytes c.push_str.new.self)) c.loop-message.message
    (λ m less waits. rw (c.in_ok-push_str.ensures.bytes) (tells_before _ (string_bytes c.loop-message.text) c.deref.result.now (c.loop-message.invariant m less waits)))
    (λ waits. rw (c.in_ok-push_str.ensures.bytes, c.deref.ensures) (tells_after _ (string_bytes c.loop-message.text) (string_bytes c.in_ok-bar.bar) (c.in_ok-bar.ensures waits)))
