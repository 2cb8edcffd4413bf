use Rattle.std.proofs.Common.{◌≡◌, ℕ, Option, Some, None, refl, is_none, length, replicate, sym, ap, subst, ◌∙◌, arith}
use Rattle.std.proofs.lemmas.List.Sums.{count_by-le-length}
use Rattle.convoy_plans.specs.Placements.{Completes}
use Rattle.convoy_best_plan.proofs.Placing.{completes_none}
use Rattle.convoy_best_plan.proofs.planning.chosen_of.Goals as goal

-- what holds of no number holds of none alone
only_none : (P : Option ℕ → Type 0) → ((x : ℕ) → P (Some x) → ⊥) → (y : Option ℕ) → P y → y ≡ None
only_none P never None is = refl
only_none P never (Some x) is = absurd (never x is)

pub search_below-requires-clause-left : goal.search_below-requires-clause-left
search_below-requires-clause-left g c κs within =
    let most = count_by-le-length {X = Option ℕ} is_none c.deref.result.now in
    let items = ap length c.deref.ensures.value in
    let long = c.in_ok-sites.ensures.len in
    omega (arith, most, items, long)

pub returns-clause-passed : goal.returns-clause-passed
returns-clause-passed g c =
    let none : c.in_ok-sites.sites.items ≡ replicate c.group_count-groups.result None = c.in_ok-sites.ensures.items_if_clones_equal (only_none _ (λ x same. same)) in
    λ placement is new.
    c.in_ok-standing.ensures.passed placement is new
    (subst (Completes placement) (sym (c.deref.ensures.value ∙ none)) (completes_none placement c.group_count-groups.result))
