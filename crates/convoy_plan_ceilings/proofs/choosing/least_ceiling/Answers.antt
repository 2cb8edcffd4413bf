use Rattle.std.proofs.Common.{◌≡◌, ℕ, Option, Some, None, refl, replicate, sym, subst, ◌∙◌}
use Rattle.convoy_plans.specs.Placements.{Completes}
use Rattle.convoy_best_plan.proofs.Placing.{completes_none}
use Rattle.convoy_plan_ceilings.proofs.Passing.{chosen_of}
use Rattle.convoy_plan_ceilings.proofs.choosing.least_ceiling.Goals as goal

-- what holds of no number holds of none alone
only_none : (P : Option ℕ → Type 0) → ((x : ℕ) → P (Some x) → ⊥) → (y : Option ℕ) → P y → y ≡ None
only_none P never None is = refl
only_none P never (Some x) is = absurd (never x is)

pub returns : goal.returns
returns c =
    let none : c.in_ok-sites.sites.items ≡ replicate c.group_count-groups.result None = c.in_ok-sites.ensures.items_if_clones_equal (only_none _ (λ x same. same)) in
    chosen_of c.args.wanted c.args.plan.now c.in_ok-searched.searched.chosen c.in_ok-searched.ensures.standing.chosen
    (λ placement is.
    c.in_ok-searched.ensures.passed placement is (subst (Completes placement) (sym (c.deref.ensures.value ∙ none)) (completes_none placement c.group_count-groups.result)))
