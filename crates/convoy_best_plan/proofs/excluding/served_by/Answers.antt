use Rattle.std.proofs.lemmas.List.Elements.{Contains-get_or}
use Rattle.convoy_best_plan.proofs.excluding.served_by.Goals as goal

pub returns : goal.returns
returns c = λ some.
    c.late_last_is_late.ensures c.args.scenario.now c.args.targets.now _ c.in_ok-instance.instance _ c.group_count-count.ensures.lawful
    (c.requires.lawful c.args.place _ c.requires.known) (Contains-get_or c.args.targets.now c.args.place _ c.requires.known) c.in_ok-instance.ensures
    (c.in_ok-hint.ensures some)
