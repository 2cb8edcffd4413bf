use Rattle.std.proofs.Common.{ℕ, List, ◌++◌, flat_map, sym, ap, ◌∙◌, append_assoc}
use Rattle.std.specs.List.{range_with_len}
use Rattle.convoy_stamps.proofs.Loops.{flat_map_range_more}
use Rattle.convoy_case_answers.specs.Told.{sent_text}
use Rattle.convoy_case_answers.proofs.telling.push_senders.Goals as goal

pub loop-message-preserved : goal.loop-message-preserved
loop-message-preserved c =
    let of : ℕ → List ℕ = sent_text c.args.scenario.now in
    let n : ℕ = c.loop-message.message in
    c.in_ok-push_sender.ensures ∙ ap (λ (text : List ℕ). text ++ of n) c.loop-message.invariant
    ∙ append_assoc c.args.out.now.items (flat_map of (range_with_len 0 n)) (of n)
    ∙ ap (λ (text : List ℕ). c.args.out.now.items ++ text) (sym (flat_map_range_more of n))
