use Rattle.std.proofs.Common.{◌∙◌, ◌∷◌, [], ◌++◌, cond, sym, ap, List, ℕ, Bool}
use Rattle.std.proofs.lemmas.List.{append-nil}
use Rattle.convoy_kinds.proofs.Loops.{kept_more}
use Rattle.convoy_kinds.proofs.numbers.push_sets.Goals as goal
use Rattle.convoy_kinds.proofs.numbers.push_sets.Goals.{then-has_size+in_ok-push, else-has_size}

pub loop-number-preserved : goal.loop-number-preserved
loop-number-preserved c =
    let kept : Bool → List (List ℕ) = λ b. c.loop-number.sets.items ++ cond b (c.in_ok-set.set ∷ []) [] in
    kept_more c.args.groups c.args.size c.loop-number.number c.args.sets.now.items c.loop-number.sets.items _ c.in_ok-set.set c.in_ok-set.ensures c.loop-number.invariant
    (elim c.if-has_size.branch [
      | then-has_size+in_ok-push w ↦ ap (λ sets. sets.items) w.sets-is ∙ w.in_ok-push.ensures.items ∙ ap kept (sym w.if-has_size.true ∙ c.has_size.ensures)
      | else-has_size w ↦ ap (λ sets. sets.items) w.sets-is ∙ sym (append-nil c.loop-number.sets.items) ∙ ap kept (sym w.if-has_size.false ∙ c.has_size.ensures)
    ])
