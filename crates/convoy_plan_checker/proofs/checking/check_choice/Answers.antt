use Rattle.std.proofs.Common.{List, sym, subst, ◌∙◌}
use Rattle.convoy_best_order.specs.declared.target.Target.{Target}
use Rattle.convoy_plan_checker.specs.PlanValidity.{AreShown}
use Rattle.convoy_plan_checker.proofs.Stepping.{ok_if_right, right_if_ok}
use Rattle.convoy_plan_checker.proofs.checking.check_choice.Goals as goal

pub returns-in-Ok-clause-valid : goal.returns-in-Ok-clause-valid
returns-in-Ok-clause-valid c =
    right_if_ok c.args.wanted c.args.plan.now c.args.scenario c.args.certificate.now c.in_ok-targets.targets.items c.in_ok-targets.ensures.value
    (sym c.is_ordered.ensures.value ∙ c.if-not-is_ordered.false) c.check_tree.result c.check_tree.ensures
    (subst (λ (ts : List Target). AreShown c.args.scenario c.args.certificate.now.order.items ts c.args.certificate.now.shown.items) c.deref.ensures.value
    c.in-Ok.ensures.valid)

pub returns-in-Ok-clause-only : goal.returns-in-Ok-clause-only
returns-in-Ok-clause-only c =
    ok_if_right c.args.wanted c.args.plan.now c.args.scenario c.args.certificate.now c.in_ok-targets.targets.items c.in_ok-targets.ensures.value
    (sym c.is_ordered.ensures.value ∙ c.if-not-is_ordered.false) c.check_tree.result c.check_tree.ensures

pub returns-in-Err-clause-only : goal.returns-in-Err-clause-only
returns-in-Err-clause-only c = λ right.
    c.in-Err.ensures.only
    (subst (λ (ts : List Target). AreShown c.args.scenario c.args.certificate.now.order.items ts c.args.certificate.now.shown.items)
    (sym (c.deref.ensures.value ∙ c.in_ok-targets.ensures.value)) right.shown)
