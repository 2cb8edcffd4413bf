use Rattle.std.proofs.Common.{is_some, sym, ap, ◌∙◌}
use Rattle.std.proofs.lemmas.Bool.{eq-eqb, or_right}
use Rattle.std.proofs.lemmas.List.Elements.{Contains-get_or}
use Rattle.std.proofs.lemmas.Option.{get_or_from_slice_get}
use Rattle.convoy_best_order.specs.declared.target.Target.{Target}
use Rattle.convoy_best_order.specs.Targets.{is_at}
use Rattle.convoy_best_order.proofs.Dearer.{dearer_is, dearer_kept, still_kept}
use Rattle.convoy_best_order.proofs.Kept.{found_kept}
use Rattle.convoy_best_order.proofs.costs.dearest_with.Goals as goal

pub returns-clause-some : goal.returns-clause-some
returns-clause-some g c target at =
    sym (or_right (is_some c.args.dearest) (is_at c.args.group target)
    (eq-eqb target.group c.args.group
    (ap (λ (t : Target). t.group) (sym (get_or_from_slice_get c.args.targets.now c.args.place target _ at)) ∙ c.if-target-group.false)))

pub returns-clause-dearest : goal.returns-clause-dearest
returns-clause-dearest g c =
    rw c.dearer.ensures
    (dearer_is c.args.options.now c.args.span c.args.scenario.now c.args.targets.now c.args.order.now c.args.group c.args.dearest _ c.in_ok-spread.spread
    c.requires.order c.requires.dearest (Contains-get_or c.args.targets.now c.args.place _ c.requires.known) c.if-target-group.false c.in_ok-spread.ensures)

pub returns-clause-kept : goal.returns-clause-kept
returns-clause-kept g c =
    rw c.dearer.ensures
    (dearer_kept c.args.span c.args.scenario.now c.args.order.now c.args.group c.args.targets.now c.args.place _ c.requires.known c.args.dearest c.in_ok-spread.spread
    c.requires.kept
    (found_kept c.args.options.now c.args.span c.args.scenario.now c.args.order.now _ c.in_ok-spread.spread c.in_ok-spread.ensures))

pub returns-then-target-group-clause-kept : goal.returns-then-target-group-clause-kept
returns-then-target-group-clause-kept g c =
    still_kept c.args.span c.args.scenario.now c.args.order.now c.args.group c.args.targets.now c.args.place _ c.requires.known c.args.dearest c.if-target-group.true
    c.requires.kept
