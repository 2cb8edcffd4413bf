use Rattle.std.proofs.Common.{◌≡◌, ℕ, ◌+◌, ◌≤◌, ◌++◌, List, [], ◌∷◌, length, sym, ap, subst, ◌∙◌, arith}
use Rattle.std.proofs.lemmas.List.{length_push}
use Rattle.convoy_scenario.specs.Scenario.{message_at, is_addressed}
use Rattle.convoy_sure.proofs.Loops.{range_more_yes, range_more_no}
use Rattle.convoy_sure.proofs.messages.addressed_to.Goals as goal
use Rattle.convoy_sure.proofs.messages.addressed_to.Goals.{then-is_addressed, else-is_addressed}

pub loop-message-preserved : goal.loop-message-preserved
loop-message-preserved c =
    let test = λ (n : ℕ). is_addressed (message_at c.args.scenario.now n) c.args.group in
    let i : ℕ = c.loop-message.message in
    elim c.if-is_addressed.branch [
      | then-is_addressed w ↦
          let items : c.if-is_addressed.messages ≡ c.loop-message.messages ++ i ∷ [] = w.messages-is ∙ w.push.ensures in
          record {
            so_far = items ∙ ap (λ (l : List ℕ). l ++ i ∷ []) c.loop-message.invariant.so_far ∙ sym (range_more_yes test i (sym c.is_addressed.ensures ∙ w.if-is_addressed.true));
            few = subst (λ (l : List ℕ). length l ≤ i + 1) (sym items) (omega (arith, length_push c.loop-message.messages i, c.loop-message.invariant.few));
          }
      | else-is_addressed w ↦
          let items : c.if-is_addressed.messages ≡ c.loop-message.messages = w.messages-is in
          record {
            so_far = items ∙ c.loop-message.invariant.so_far ∙ sym (range_more_no test i (sym c.is_addressed.ensures ∙ w.if-is_addressed.false));
            few = subst (λ (l : List ℕ). length l ≤ i + 1) (sym items) (omega (arith, c.loop-message.invariant.few));
          }
    ]
