use Rattle.std.proofs.Common.{List, subst, None}
use Rattle.convoy_best_order.specs.declared.target.Target.{Target}
use Rattle.convoy_best_order.specs.Best.{IsBest}
use Rattle.convoy_best_plan.proofs.Choices.{settled_best}
use Rattle.convoy_best_plan.proofs.planning.settled.Goals as goal

pub returns : goal.returns
returns g c =
    settled_best c.no_order_is_better.ensures c.best_order_keeps.ensures c.args.options.now c.args.wanted c.args.plan.now c.args.told.now c.args.planned c.in_ok-targets.targets
    c.in_ok-best.best c.requires.found c.group_count-count.ensures.lawful c.in_ok-targets.ensures.value c.in_ok-targets.ensures.lawful
    (subst (λ (targets : List Target). IsBest c.args.options.now None c.args.planned.scenario targets c.in_ok-best.best) c.deref.ensures.value c.in_ok-best.ensures)
    c.choice_of-found.result c.lower-floor.result c.choice_of-found.ensures c.lower-floor.ensures c.requires.passed
