use Rattle.std.proofs.Common.{ℕ, ◌/◌, ◌%◌, [], ◌∷◌, ◌++◌, ap₂, sym, ◌∙◌, arith}
use Rattle.std.proofs.lemmas.List.FromFn.{map-range_with_len_more}
use Rattle.convoy_draft.specs.declared.limits.TheConstants.{MOST_GROUPS}
use Rattle.convoy_sim.specs.declared.progress.Progress.{Progress}
use Rattle.convoy_sim.specs.Progress.{progress_told}
use Rattle.convoy_sim.proofs.progress.list_progress.Goals as goal

pub loop-at-preserved : goal.loop-at-preserved
loop-at-preserved c =
    let told : ℕ → Progress = λ at. progress_told c.args.times.now.scenario c.args.times.now.schedule c.args.stamps.now (at / MOST_GROUPS) (at % MOST_GROUPS) in
    let at : ℕ = c.loop-at.at in
    c.in_ok-push.ensures.items
    ∙ ap₂ (λ xs x. xs ++ x ∷ []) c.loop-at.invariant c.told_at.ensures
    ∙ sym (map-range_with_len_more told 0 at at (omega arith))
