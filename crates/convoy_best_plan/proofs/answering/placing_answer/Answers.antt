use Rattle.std.proofs.Common.{◌≡◌, ◌∷◌, [], ◌++◌, ℕ, List, Option, option_to_list, arith, inl, inr, refl, sym, ap, subst, ◌∙◌}
use Rattle.std.proofs.lemmas.Result.{err_from_is_err_and}
use Rattle.convoy_best_order.specs.Orders.{IsOrder}
use Rattle.convoy_best_plan.specs.declared.planned.Planned.{Planned}
use Rattle.convoy_best_plan.specs.Answers.{end_of_all}
use Rattle.convoy_best_plan.specs.BestPlans.{AreBestPlans}
use Rattle.convoy_best_plan.proofs.InTurn.{last_order, none_at_all}
use Rattle.convoy_best_plan.proofs.ReadPlans.{read_by}
use Rattle.convoy_best_plan.proofs.answering.placing_answer.Goals as goal

pub returns-in-None : goal.returns-in-None
returns-in-None g c =
    inl
    (inr
    (record {
      plan = c.in_ok-plan.plan;
      read = read_by _ _ _ c.in_ok-plan.ensures.value;
      none = none_at_all c.args.options.now c.args.wanted c.in_ok-plan.plan c.count_of-count.result c.in_ok-all.all.items c.in_ok-all.ensures c.count_of-count.ensures.some
          (let empty = (rw c.in-None.is at c.pop.ensures.cases).0 in omega (arith, empty));
      told = refl;
    }))

pub listed-requires : goal.listed-requires
listed-requires g c =
    let split : c.in_ok-all.all.items ≡ c.pop.new.self.items ++ c.in-Some.planned ∷ [] =
    subst (λ (o : Option Planned). c.in_ok-all.all.items ≡ c.pop.new.self.items ++ option_to_list o) c.in-Some.is c.pop.ensures.items in
    subst (IsOrder c.in-Some.planned.scenario) (sym c.deref-2.ensures.value)
    (last_order c.args.options.now c.args.wanted c.in_ok-plan.plan c.count_of-count.result c.in_ok-all.all.items c.pop.new.self.items c.in-Some.planned c.in_ok-all.ensures split)

pub returns-in_err-other : goal.returns-in_err-other
returns-in_err-other g c =
    let returned = err_from_is_err_and c.from_residual-in_err-other.result c.from_residual-in_err-other.ensures.1 in
    inr (rw (returned.1, returned.2) refl)

pub returns-in_err-text : goal.returns-in_err-text
returns-in_err-text g c =
    let returned = err_from_is_err_and c.from_residual-in_err-text.result c.from_residual-in_err-text.ensures.1 in
    inr (rw (returned.1, returned.2) refl)

pub returns : goal.returns
returns g c =
    let split : c.in_ok-all.all.items ≡ c.pop.new.self.items ++ c.in-Some.planned ∷ [] =
    subst (λ (o : Option Planned). c.in_ok-all.all.items ≡ c.pop.new.self.items ++ option_to_list o) c.in-Some.is c.pop.ensures.items in
    inl
    (record {
      plan = c.in_ok-plan.plan;
      ahead = c.pop.new.self.items;
      planned = c.in-Some.planned;
      other = c.in_ok-other.other;
      told = record {
        read = read_by _ _ _ c.in_ok-plan.ensures.value;
        best = subst (λ (count : ℕ). AreBestPlans c.args.options.now c.args.wanted c.in_ok-plan.plan count (c.pop.new.self.items ++ c.in-Some.planned ∷ [])) c.count_of-count.ensures.value
            (subst (λ (ps : List Planned). AreBestPlans c.args.options.now c.args.wanted c.in_ok-plan.plan c.count_of-count.result ps) split c.in_ok-all.ensures);
      };
      made = rw (← c.deref-2.ensures.value) c.in_ok-other.ensures;
      written = rw (c.about.ensures.text, c.in_ok-text.ensures) refl;
      ends = c.about.ensures.done ∙ (c.end_of_all-done.ensures ∙ ap (λ (ps : List Planned). end_of_all ps) (c.deref.ensures.value ∙ split));
    })
