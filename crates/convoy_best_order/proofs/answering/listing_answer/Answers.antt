use Rattle.std.proofs.Common.{All, ◌≡◌, ◌<◌, ℕ, List, Option, filter, length, inl, refl, ap, subst, subst₂, sym, ◌∙◌}
use Rattle.std.proofs.lemmas.List.Elements.{All-filter}
use Rattle.convoy_scenario.specs.Scenario.{Scenario}
use Rattle.convoy_toml.specs.Around.{span_asked}
use Rattle.convoy_toml.specs.Reading.{deadlines_of_text}
use Rattle.convoy_survey.specs.Surveys.{rows_asked, with_rows}
use Rattle.convoy_best_order.specs.declared.target.Target.{Target}
use Rattle.convoy_best_order.specs.Answers.{targets_of_text}
use Rattle.convoy_best_order.specs.Best.{IsBest}
use Rattle.convoy_best_order.specs.Orders.{IsOrder}
use Rattle.convoy_best_order.specs.Targets.{MayBeTarget, are_judged, counted, counts, targets_of}
use Rattle.convoy_best_order.proofs.Around.{order_of_rows}
use Rattle.convoy_best_order.proofs.Counting.{some_count}
use Rattle.convoy_best_order.proofs.answering.listing_answer.Goals as goal

pub best_order-requires-clause-some : goal.best_order-requires-clause-some
best_order-requires-clause-some g c κs within =
    subst (λ (ts : List Target). 0 < length ts) (sym (c.deref-3.ensures.value ∙ c.in_ok-counting.ensures))
    (some_count c.deref-2.result.now (subst (λ (ts : List Target). 0 < length ts) (sym c.deref-2.ensures.value) c.in_ok-targets.ensures.some))

pub best_order-requires-clause-lawful : goal.best_order-requires-clause-lawful
best_order-requires-clause-lawful g c κs within =
    let lawful = MayBeTarget c.in_ok-base.base in
    subst (λ (ts : List Target). All lawful ts) (sym (c.deref-3.ensures.value ∙ c.in_ok-counting.ensures))
    (All-filter (counts (are_judged c.deref-2.result.now)) lawful c.deref-2.result.now
    (subst (λ (ts : List Target). All lawful ts) (sym c.deref-2.ensures.value) c.in_ok-targets.ensures.lawful))

pub listed-requires : goal.listed-requires
listed-requires g c =
    subst (IsOrder c.in_ok-input.input.scenario) (sym c.deref-4.ensures.value)
    (order_of_rows c.span_of-span.result c.in_ok-input.input.scenario c.in_ok-best.best.order.items
    (subst (λ (s : Scenario). IsOrder s c.in_ok-best.best.order.items) c.in_ok-base.ensures c.in_ok-best.ensures.order))

pub returns : goal.returns
returns g c =
    let scenario = c.in_ok-input.input.scenario in
    let span_is : c.span_of-span.result ≡ span_asked c.args.asked.now.around scenario = c.span_of-span.ensures.value in
    let base_is : c.in_ok-base.base ≡ rows_asked c.args.asked.now scenario = c.in_ok-base.ensures ∙ ap (λ (n : Option ℕ). with_rows n scenario) span_is in
    let targets : c.in_ok-targets.targets.items ≡ targets_of_text c.args.wanted c.args.asked.now c.args.text.now scenario =
    c.in_ok-targets.ensures.value
    ∙ ap (λ (deadlines : List (Option ℕ)). targets_of c.args.wanted deadlines c.in_ok-base.base) (c.deref.ensures.value ∙ c.in_ok-input.ensures.deadlines)
    ∙ ap (λ (s : Scenario). targets_of c.args.wanted (deadlines_of_text c.args.asked.now c.args.text.now) s) base_is in
    inl
    (record {
      scenario = scenario;
      best = c.in_ok-best.best;
      other = c.in_ok-other.other;
      read = c.in_ok-input.ensures.read;
      lawful = c.message_count-count.ensures.lawful;
      told = subst₂
          (λ (n : Option ℕ) (s : Scenario). IsBest c.args.options.now n s (counted (targets_of_text c.args.wanted c.args.asked.now c.args.text.now scenario)) c.in_ok-best.best)
          span_is base_is
          (subst (λ (ts : List Target). IsBest c.args.options.now c.span_of-span.result c.in_ok-base.base ts c.in_ok-best.best)
          (c.deref-3.ensures.value ∙ c.in_ok-counting.ensures ∙ ap counted (c.deref-2.ensures.value ∙ targets)) c.in_ok-best.ensures);
      made = rw (← c.deref-4.ensures.value) c.in_ok-other.ensures;
      written = rw (c.about.ensures.text, c.in_ok-text.ensures) refl;
      ends = rw (c.about.ensures.done, c.end_of-done.ensures, c.are_judged.ensures, c.deref-5.ensures.value, targets) refl;
    })
