use Rattle.std.proofs.Common.{ap, subst, ◌∙◌}
use Rattle.convoy_scenario.specs.Scenario.{Scenario}
use Rattle.convoy_packets.specs.Order.{IsOrder}
use Rattle.convoy_seek.proofs.Schedules.{reordered}
use Rattle.convoy_best_plan.proofs.hints.Hint.ordered.Goals as goal

pub returns-in-Ok : goal.returns-in-Ok
returns-in-Ok c =
    reordered c.args.instance.now c.args.schedule _ c.in-Ok.order
    (subst (λ (s : Scenario). IsOrder s c.in-Ok.order) c.scenario.ensures.value
    (c.in-Ok.ensures.lawful (ap (λ (s : Scenario). s.time) c.scenario.ensures.value ∙ c.requires.time)))
    c.set_order.ensures c.requires.schedule
