use Rattle.std.proofs.Common.{◌≡◌, ℕ, ◌<◌, List, [], ◌++◌, length, IsTrue, inl, inr, sym, ap, subst, subst₂, ◌∙◌, arith}
use Rattle.std.proofs.lemmas.Grind.{common_steps}
use Rattle.convoy_best_order.specs.declared.best.Reason.{Reason}
use Rattle.convoy_best_order.specs.Choices.{AreCosts, IsCheapest, costs_of}
use Rattle.convoy_best_order.specs.Orders.{IsOrder}
use Rattle.convoy_best_order.specs.Targets.{has_target}
use Rattle.convoy_best_order.proofs.Held.{all_held, next_held, start_held}
use Rattle.convoy_best_order.proofs.Steps.{all_have, are_reasons, as_many, parted, some_group, still_all, still_order}
use Rattle.convoy_best_order.proofs.choosing.chosen_order.Goals as goal

pub reasons_of-requires-clause-order : goal.reasons_of-requires-clause-order
reasons_of-requires-clause-order g c κs within =
    rw (c.deref.ensures.value, c.deref-2.ensures.value, c.in_ok-ahead.ensures, c.in_ok-left.ensures) (parted c.args.targets.now c.args.scenario.now)

pub reasons_of-requires-clause-some : goal.reasons_of-requires-clause-some
reasons_of-requires-clause-some g c κs within = rw (c.deref-2.ensures.value, c.in_ok-left.ensures) (all_have c.args.targets.now c.args.scenario.now)

pub cheapest-requires : goal.cheapest-requires
cheapest-requires g c =
    let left = c.deref-2.ensures.value ∙ c.in_ok-left.ensures in
    let some = some_group c.args.targets.now c.args.scenario.now c.group_count-count.ensures.lawful c.requires.some c.requires.lawful in
    subst (λ (n : ℕ). 0 < n)
    (sym (ap length c.deref-3.ensures.value ∙ as_many c.deref-2.result.now c.in_ok-strongest.strongest.items c.in_ok-strongest.ensures.groups ∙ ap length left)) some

pub loop-alloc-init : goal.loop-alloc-init
loop-alloc-init g c =
    let known = c.cheapest.ensures.known in
    let many = as_many c.deref-2.result.now c.in_ok-strongest.strongest.items c.in_ok-strongest.ensures.groups in
    let same = ap length c.deref-3.ensures.value in
    let same_too = ap length c.deref-2.ensures.value in
    let within : c.cheapest.result < length c.in_ok-left.left.items = omega (arith, known, many, same, same_too) in
    let is : IsOrder c.args.scenario.now (c.in_ok-ahead.ahead.items ++ c.in_ok-left.left.items) =
    rw (c.in_ok-ahead.ensures, c.in_ok-left.ensures) (parted c.args.targets.now c.args.scenario.now) in
    rw (c.in_ok-list_next.ensures.ahead, c.in_ok-list_next.ensures.left)
    (record {
      order = still_order c.args.scenario.now c.in_ok-ahead.ahead.items c.in_ok-left.left.items c.cheapest.result within is;
      some = still_all (λ (h : ℕ). IsTrue (has_target c.args.targets.now h)) c.in_ok-left.left.items c.cheapest.result within
          (rw c.in_ok-left.ensures (all_have c.args.targets.now c.args.scenario.now));
      reasons = are_reasons c.args.options.now c.args.span c.args.scenario.now c.args.targets.now c.deref-2.result.now c.in_ok-strongest.strongest.items
          (omega (arith, known, same)) c.in_ok-strongest.ensures.groups c.in_ok-strongest.ensures.all;
      held = next_held c.order_behind_is_free.ensures c.args.options.now c.args.span c.args.scenario.now c.args.targets.now c.group_count-count.ensures.lawful c.requires.lawful
          c.requires.span c.in_ok-ahead.ahead.items c.in_ok-left.left.items c.cheapest.result within is c.in_ok-strongest.strongest.items c.in_ok-strongest.strongest.items
          c.in_ok-strongest.strongest.items (λ excess all. all) (λ excess all. all)
          (rw c.in_ok-ahead.ensures
          (start_held c.args.options.now c.args.span c.args.scenario.now c.args.targets.now c.in_ok-strongest.strongest.items c.in_ok-left.left.items))
          (subst₂ (λ (ahead : List ℕ) (left : List ℕ). AreCosts c.args.span c.args.scenario.now c.args.targets.now ahead left (costs_of c.in_ok-strongest.strongest.items))
          c.deref.ensures.value c.deref-2.ensures.value c.in_ok-strongest.ensures.costs)
          c.in_ok-strongest.ensures.dear
          (subst (λ (reasons : List Reason). IsCheapest (costs_of reasons) (length reasons) c.cheapest.result) c.deref-3.ensures.value c.cheapest.ensures);
    })

pub loop-alloc-preserved : goal.loop-alloc-preserved
loop-alloc-preserved g c =
    let known = c.cheapest-in-loop-alloc.ensures.known in
    let many = as_many c.deref-in-loop-alloc-2.result.now c.in_ok-reasons.reasons.items c.in_ok-reasons.ensures.groups in
    let same = ap length c.deref-in-loop-alloc-3.ensures.value in
    let same_too = ap length c.deref-in-loop-alloc-2.ensures.value in
    let within : c.cheapest-in-loop-alloc.result < length c.loop-alloc.left.items = omega (arith, known, many, same, same_too) in
    rw (c.in_ok-list_next-2.ensures.ahead, c.in_ok-list_next-2.ensures.left)
    (record {
      order = still_order c.args.scenario.now c.loop-alloc.ahead.items c.loop-alloc.left.items c.cheapest-in-loop-alloc.result within c.loop-alloc.invariant.order;
      some = still_all (λ (h : ℕ). IsTrue (has_target c.args.targets.now h)) c.loop-alloc.left.items c.cheapest-in-loop-alloc.result within
          c.loop-alloc.invariant.some;
      reasons = elim c.stronger-strongest.ensures.one [
        | inl e ↦ rw e c.loop-alloc.invariant.reasons
        | inr e ↦ rw e
            (are_reasons c.args.options.now c.args.span c.args.scenario.now c.args.targets.now c.deref-in-loop-alloc-2.result.now c.in_ok-reasons.reasons.items
            (omega (arith, known, same)) c.in_ok-reasons.ensures.groups c.in_ok-reasons.ensures.all)
      ];
      held = next_held c.order_behind_is_free.ensures c.args.options.now c.args.span c.args.scenario.now c.args.targets.now c.group_count-count.ensures.lawful c.requires.lawful
          c.requires.span c.loop-alloc.ahead.items c.loop-alloc.left.items c.cheapest-in-loop-alloc.result within c.loop-alloc.invariant.order c.loop-alloc.strongest.items
          c.in_ok-reasons.reasons.items c.stronger-strongest.result.items c.stronger-strongest.ensures.no_weaker c.stronger-strongest.ensures.no_weaker_than_others
          c.loop-alloc.invariant.held
          (subst₂ (λ (ahead : List ℕ) (left : List ℕ). AreCosts c.args.span c.args.scenario.now c.args.targets.now ahead left (costs_of c.in_ok-reasons.reasons.items))
          c.deref-in-loop-alloc.ensures.value c.deref-in-loop-alloc-2.ensures.value c.in_ok-reasons.ensures.costs)
          c.in_ok-reasons.ensures.dear
          (subst (λ (reasons : List Reason). IsCheapest (costs_of reasons) (length reasons) c.cheapest-in-loop-alloc.result) c.deref-in-loop-alloc-3.ensures.value
          c.cheapest-in-loop-alloc.ensures);
    })

pub returns-clause-held : goal.returns-clause-held
returns-clause-held g c =
    let none : c.loop-alloc.left.items ≡ [] = grind (arith, common_steps, c.loop-alloc-test.false, c.is_empty.ensures) in
    all_held c.args.options.now c.args.span c.args.scenario.now c.args.targets.now c.loop-alloc.strongest.items c.loop-alloc.ahead.items c.loop-alloc.left.items
    c.group_count-count.ensures.lawful c.requires.lawful none c.loop-alloc.invariant.order c.loop-alloc.invariant.held
