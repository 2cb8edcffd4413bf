use Rattle.std.proofs.Common.{List, ℕ, [], ◌∷◌, ◌++◌, map, sym, ap, ◌∙◌, arith}
use Rattle.std.specs.List.{range_with_len}
use Rattle.std.proofs.lemmas.List.FromFn.{map-range_with_len_more}
use Rattle.convoy_sim.specs.Delivery.{addressed_to}
use Rattle.convoy_sure.proofs.messages.audiences.Goals as goal

pub loop-group-preserved : goal.loop-group-preserved
loop-group-preserved c =
    let of : ℕ → List ℕ = addressed_to c.args.scenario.now in
    let group : ℕ = c.loop-group.group in
    c.in_ok-push.ensures.items
    ∙ ap (λ (xs : List (List ℕ)). xs ++ c.addressed_to.result ∷ []) c.loop-group.invariant
    ∙ ap (λ (l : List ℕ). map of (range_with_len 0 group) ++ l ∷ []) c.addressed_to.ensures
    ∙ sym (map-range_with_len_more of 0 group group (omega arith))
