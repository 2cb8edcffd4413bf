use Rattle.std.proofs.Common.{◌≡◌, ℕ, ◌+◌, suc, List, [], ◌∷◌, ◌++◌, length, sym, ap, ◌∙◌, arith}
use Rattle.std.specs.List.{range_with_len}
use Rattle.std.proofs.lemmas.List.FromFn.{length-range_with_len}
use Rattle.convoy_stamps.proofs.Loops.{range_push}
use Rattle.convoy_sure.proofs.messages.all_messages.Goals as goal

pub push-requires-clause-room : goal.push-requires-clause-room
push-requires-clause-room c =
    let few = c.message_count-message-end.ensures.lawful.multicasts_high in
    omega (arith, few, ap length c.loop-message.invariant, length-range_with_len 0 c.loop-message.message, c.loop-message-test.true, c.message_count-message-end.ensures.value)

pub loop-message-preserved : goal.loop-message-preserved
loop-message-preserved c =
    let i : ℕ = c.loop-message.message in
    let next : suc i ≡ i + 1 = omega arith in
    let here : i ≡ 0 + i = omega arith in
    c.push.ensures
    ∙ ap (λ (l : List ℕ). l ++ i ∷ []) c.loop-message.invariant
    ∙ ap (λ n. range_with_len 0 i ++ n ∷ []) here
    ∙ sym (range_push 0 i)
    ∙ ap (range_with_len 0) next
