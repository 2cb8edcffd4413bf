use Rattle.std.proofs.Common.{◌≡◌, ℕ, All, List, map, ap, ap₂, subst, sym, ◌∙◌}
use Rattle.std.proofs.lemmas.List.Elements.{All-map}
use Rattle.convoy_best_order.specs.declared.excess.Excess.{Excess}
use Rattle.convoy_best_order.specs.declared.target.Target.{Target}
use Rattle.convoy_best_order.specs.Targets.{MayBeTarget}
use Rattle.convoy_best_plan.specs.declared.floor.Floor.{Floor}
use Rattle.convoy_best_plan.specs.BestPlans.{targets_by}
use Rattle.convoy_plan_ceilings.specs.declared.target_ceiling.TargetCeiling.{TargetCeiling}
use Rattle.convoy_plan_ceilings.specs.LeastCeilings.{row_at, rows_at, worst_of}
use Rattle.convoy_plan_ceilings.proofs.measuring.choice_at.Goals as goal

pub returns-clause-choice : goal.returns-clause-choice
returns-clause-choice c =
    let rows : c.in_ok-rows.rows.items ≡ rows_at c.args.wanted c.args.plan.now c.args.scenario =
    c.in_ok-rows.ensures ∙ ap (map (row_at c.args.scenario)) (c.deref.ensures.value ∙ c.in_ok-targets.ensures.value) in
    record {
      placement = c.requires.placement;
      made = c.requires.made;
      rows = rows;
      lawful = subst (λ (some : List TargetCeiling). All (λ row. MayBeTarget c.args.scenario row.target) some) (sym rows)
          (All-map (λ (row : TargetCeiling). MayBeTarget c.args.scenario row.target) (row_at c.args.scenario) (targets_by c.args.wanted c.args.plan.now c.args.scenario)
          (subst (λ (targets : List Target). All (MayBeTarget c.args.scenario) targets) c.in_ok-targets.ensures.value c.in_ok-targets.ensures.lawful));
      reach = ap₂ (λ (least : Excess) (ties : ℕ). let reach : Floor = record { least = least; ties = ties } in reach) (c.worst_of-least.ensures ∙ ap worst_of (c.deref-2.ensures.value ∙ rows))
          c.total_of-ties.ensures;
    }
