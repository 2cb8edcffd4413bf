use Rattle.std.proofs.Common.{◌≡◌, ◌==◌, ◌∷◌, ℕ, List, vec_len, arith, inl, inr, refl, sym, ap, subst, ◌∙◌}
use Rattle.std.proofs.lemmas.Bool.{both_ways, eq-eqb, eqb-true}
use Rattle.std.proofs.lemmas.Result.{err_from_is_err_and}
use Rattle.convoy_best_plan.specs.declared.planned.Planned.{Planned}
use Rattle.convoy_best_plan.specs.Answers.{end_of_all}
use Rattle.convoy_best_plan.specs.BestPlans.{AreBestPlans}
use Rattle.convoy_best_plan.proofs.InTurn.{first_and_others, none_at_all}
use Rattle.convoy_best_plan.proofs.ReadPlans.{read_by}
use Rattle.convoy_best_plan.proofs.answering.ranking_answer.Goals as goal

pub returns-then-is_empty : goal.returns-then-is_empty
returns-then-is_empty g c =
    inl
    (inr
    (record {
      plan = c.in_ok-plan.plan;
      read = read_by _ _ _ c.in_ok-plan.ensures.value;
      none = none_at_all c.args.options.now c.args.wanted c.in_ok-plan.plan c.count_of-count.result c.in_ok-all.all.items c.in_ok-all.ensures c.count_of-count.ensures.some
          (let empty = eqb-true (vec_len c.in_ok-all.all) 0 (sym c.is_empty.ensures ∙ c.if-is_empty.true) in omega (arith, empty));
      told = refl;
    }))

pub returns-in_err-others : goal.returns-in_err-others
returns-in_err-others g c =
    let returned = err_from_is_err_and c.from_residual-in_err-others.result c.from_residual-in_err-others.ensures.1 in
    inr (rw (returned.1, returned.2) refl)

pub returns : goal.returns
returns g c =
    let split : c.in_ok-all.all.items ≡ c.remove.result ∷ c.remove.new.self.items =
    first_and_others c.in_ok-all.all.items c.remove.result
    (λ none. both_ways (vec_len c.in_ok-all.all == 0) (sym c.is_empty.ensures ∙ c.if-is_empty.false) (eq-eqb (vec_len c.in_ok-all.all) 0 (omega (arith, none)))) c.remove.ensures.value
    ∙ ap (λ (ps : List Planned). c.remove.result ∷ ps) (sym c.remove.ensures.items) in
    inl
    (record {
      plan = c.in_ok-plan.plan;
      best = c.remove.result;
      others = c.remove.new.self.items;
      told = record {
        read = read_by _ _ _ c.in_ok-plan.ensures.value;
        best = subst (λ (count : ℕ). AreBestPlans c.args.options.now c.args.wanted c.in_ok-plan.plan count (c.remove.result ∷ c.remove.new.self.items)) c.count_of-count.ensures.value
            (subst (λ (ps : List Planned). AreBestPlans c.args.options.now c.args.wanted c.in_ok-plan.plan c.count_of-count.result ps) split c.in_ok-all.ensures);
      };
      written = rw (c.about.ensures.text, c.in_ok-text.ensures, c.unit-unit.ensures, c.as_told-best.ensures, c.deref-2.ensures.value, c.in_ok-others.ensures) refl;
      ends = c.about.ensures.done ∙ (c.end_of_all-done.ensures ∙ ap (λ (ps : List Planned). end_of_all ps) (c.deref.ensures.value ∙ split));
    })
