use Rattle.std.proofs.Common.{Bool, ◌||◌, get_or, sym, ap, ◌∙◌}
use Rattle.std.proofs.lemmas.List.Folds.{list_any_more}
use Rattle.std.proofs.lemmas.Option.{slice_get-get_or}
use Rattle.convoy_best_order.specs.declared.target.Target.{Target}
use Rattle.convoy_best_order.specs.Targets.{is_at}
use Rattle.convoy_best_order.proofs.Steps.{no_target}
use Rattle.convoy_best_order.proofs.costs.dearest_of.Goals as goal

pub loop-place-preserved : goal.loop-place-preserved
loop-place-preserved g c =
    let target : Target = get_or c.args.targets.now c.loop-place.place no_target in
    record {
      some = c.in_ok-dearest.ensures.some target (slice_get-get_or c.args.targets.now c.loop-place.place no_target c.loop-place-test.true)
          ∙ ap (λ (b : Bool). b || is_at c.args.group target) c.loop-place.invariant.some
          ∙ sym (list_any_more (is_at c.args.group) c.args.targets.now c.loop-place.place no_target c.loop-place-test.true);
      dearest = c.in_ok-dearest.ensures.dearest;
      kept = c.in_ok-dearest.ensures.kept;
    }
