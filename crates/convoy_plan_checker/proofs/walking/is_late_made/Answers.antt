use Rattle.std.proofs.Common.{◌≡◌, ℕ, List, IfOk, ap, subst, ◌∙◌}
use Rattle.convoy_best_order.specs.declared.target.Target.{Target}
use Rattle.convoy_best_order.specs.declared.wanted.Wanted.{Wanted}
use Rattle.convoy_best_plan.specs.declared.floor.Floor.{Floor}
use Rattle.convoy_best_plan.specs.BestPlans.{targets_by}
use Rattle.convoy_best_plan.specs.Floors.{excess_at}
use Rattle.convoy_best_plan.specs.Totals.{total_of}
use Rattle.convoy_plan_checker.specs.Lateness.{are_late}
use Rattle.convoy_plan_checker.proofs.walking.is_late_made.Goals as goal

pub returns : goal.returns
returns c =
    subst (λ (ts : List Target). IfOk c.are_late.result (λ late. late ≡ are_late c.args.scenario.now ts (excess_at c.args.claim.now.floor (total_of c.args.scenario.now)) c.args.witnesses.now))
    (c.deref.ensures.value ∙ c.in_ok-targets.ensures.value ∙ ap (λ (w : Wanted). targets_by w c.args.plan.now c.args.scenario.now) c.wanted-wanted.ensures)
    (subst (λ (f : Floor). IfOk c.are_late.result (λ late. late ≡ are_late c.args.scenario.now c.deref.result.now (excess_at f (total_of c.args.scenario.now)) c.args.witnesses.now)) c.floor-floor.ensures
    (subst (λ (n : ℕ). IfOk c.are_late.result (λ late. late ≡ are_late c.args.scenario.now c.deref.result.now (excess_at c.floor-floor.result n) c.args.witnesses.now)) c.total_of-total.ensures
    c.are_late.ensures))
