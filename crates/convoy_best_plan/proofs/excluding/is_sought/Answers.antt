use Rattle.std.proofs.Common.{get_or, subst}
use Rattle.std.proofs.lemmas.List.Elements.{Contains-get_or}
use Rattle.convoy_scenario.specs.Scenario.{Scenario}
use Rattle.convoy_best_order.proofs.Steps.{no_target}
use Rattle.convoy_best_plan.specs.Floors.{excess_at}
use Rattle.convoy_best_plan.specs.Witnesses.{IsPast}
use Rattle.convoy_best_plan.proofs.excluding.is_sought.Goals as goal

pub returns : goal.returns
returns c = λ yes.
    c.late_last_is_late.ensures c.args.scenario.now c.args.targets.now _ c.in_ok-instance.instance (excess_at c.args.reach c.args.total) c.group_count-count.ensures.lawful
    (c.requires.lawful c.args.place _ c.requires.known) (Contains-get_or c.args.targets.now c.args.place _ c.requires.known) c.in_ok-instance.ensures
    (subst (λ (s : Scenario). IsPast s (get_or c.args.targets.now c.args.place no_target) (excess_at c.args.reach c.args.total)) c.in_ok-found.ensures (c.is_found_past-past.ensures yes))
