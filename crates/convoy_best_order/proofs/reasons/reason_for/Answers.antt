use Rattle.std.proofs.Common.{List, ℕ, subst, ◌∙◌}
use Rattle.std.proofs.lemmas.List.{get_or_default}
use Rattle.std.proofs.lemmas.Option.{slice_get-get_or}
use Rattle.convoy_best_order.specs.Spreads.{IsSpreadIn}
use Rattle.convoy_best_order.proofs.Steps.{is_reason, next_listed}
use Rattle.convoy_best_order.proofs.reasons.reason_for.Goals as goal

pub dearest_at-requires-clause-order : goal.dearest_at-requires-clause-order
dearest_at-requires-clause-order g c κs within =
    rw (c.deref.ensures.value, c.in_ok-order.ensures)
    (next_listed c.args.scenario.now c.args.ahead.now c.args.left.now c.args.place c.requires.known c.requires.next.order)

pub returns : goal.returns
returns g c = record {
  at = rw c.in_ok-dearest.ensures.dearest.at (slice_get-get_or c.args.left.now c.args.place _ c.requires.known);
  told =
      is_reason c.args.options.now c.args.span c.args.scenario.now c.args.targets.now c.args.ahead.now c.args.left.now c.args.place _ c.requires.known c.requires.next.order
      c.in_ok-order.ensures
      (c.in_ok-dearest.ensures.dearest.at ∙ get_or_default c.args.left.now c.args.place _ 0 c.requires.known)
      c.in_ok-dearest.ensures.dearest.of_target
      (subst (λ (order : List ℕ). IsSpreadIn c.args.options.now c.args.span c.args.scenario.now order c.in_ok-dearest.dearest.target c.in_ok-dearest.dearest.spread)
      c.deref.ensures.value c.in_ok-dearest.ensures.dearest.found);
  kept = rw (← c.in_ok-order.ensures, ← c.deref.ensures.value, c.in_ok-dearest.ensures.dearest.at) c.in_ok-dearest.ensures.kept;
  dear = c.in_ok-dearest.ensures.dearest.exact;
}
