use Rattle.std.proofs.Common.{List, sym, subst, None}
use Rattle.std.specs.List.{Contains}
use Rattle.convoy_best_order.specs.declared.target.Target.{Target}
use Rattle.convoy_best_plan.proofs.choice_laws.choice_keeps.Goals as goal

pub returns : goal.returns
returns c = λ settings wanted plan told planned target is of_target.
    c.best_order_keeps.ensures settings None planned.scenario planned.targets.items planned.best target is.choice.best
    (subst (λ (ts : List Target). Contains ts target) (sym is.choice.targets) of_target)
