use Rattle.std.proofs.Common.{◌≡◌, ◌↔◌, true, Result, Ok, Err, IfOk, List, ℕ, subst, sym, ◌∙◌}
use Rattle.std.specs.declared.alloc.AllocError.{AllocError}
use Rattle.convoy_plans.specs.Placements.{IsPlacement}
use Rattle.convoy_best_plan.specs.declared.standing.Standing.{Standing}
use Rattle.convoy_best_plan.specs.BestPlans.{IsNew}
use Rattle.convoy_best_plan.specs.Standings.{ArePassed, IsPassed}
use Rattle.convoy_best_plan.proofs.Passing.{passed_alone, passed_none, passed_told}
use Rattle.convoy_best_plan.proofs.searching.visit_placed.Goals as goal

-- what follows from what holds where it succeeds
where_ok : (P Q : Standing → Type 0) (result : Result Standing AllocError) → ((next : Standing) → P next → Q next) → IfOk result P → IfOk result Q
where_ok P Q (Ok next) gives holds = gives next holds
where_ok P Q (Err error) gives holds = tt

pub returns-then-not-placed-clause-passed : goal.returns-then-not-placed-clause-passed
returns-then-not-placed-clause-passed g c =
    passed_none c.args.wanted c.args.plan.now c.args.told.now c.args.standing.chosen c.args.sites.now c.in_ok-placement.placement.items c.in_ok-placement.ensures
    (c.requires.long ∙ sym c.group_count-count.ensures.lawful.housed) c.is_placement-placed.result
    (subst (λ (sites : List ℕ). (c.is_placement-placed.result ≡ true) ↔ IsPlacement c.args.plan.now sites) c.deref.ensures.value c.is_placement-placed.ensures) c.if-not-placed.true

pub returns-then-not-new-clause-passed : goal.returns-then-not-new-clause-passed
returns-then-not-new-clause-passed g c =
    passed_told c.args.wanted c.args.plan.now c.args.told.now c.args.standing.chosen c.args.sites.now c.in_ok-placement.placement.items c.in_ok-placement.ensures
    (c.requires.long ∙ sym c.group_count-count.ensures.lawful.housed) c.is_new-new.result
    (subst (λ (sites : List ℕ). (c.is_new-new.result ≡ true) ↔ IsNew c.args.told.now sites) c.deref-2.ensures.value c.is_new-new.ensures) c.if-not-new.true

pub returns : goal.returns
returns g c = record {
  standing = c.visit.ensures.standing;
  fallen = c.visit.ensures.fallen;
  passed = where_ok (λ (next : Standing). IsPassed c.args.wanted c.args.plan.now next.chosen c.in_ok-placement.placement.items)
      (λ (next : Standing). ArePassed c.args.wanted c.args.plan.now c.args.told.now next.chosen c.args.sites.now) c.visit.result
      (λ next. passed_alone c.args.wanted c.args.plan.now c.args.told.now next.chosen c.args.sites.now c.in_ok-placement.placement.items c.in_ok-placement.ensures
      (c.requires.long ∙ sym c.group_count-count.ensures.lawful.housed)) c.visit.ensures.passed;
}
