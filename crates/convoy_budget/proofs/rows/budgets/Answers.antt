use Rattle.std.proofs.Common.{List, flat_map, ap, ◌∙◌}
use Rattle.convoy_budget.specs.declared.kinds.Way.{Way}
use Rattle.convoy_budget.specs.Budgets.{keys_of}
use Rattle.convoy_budget.proofs.Each.{all_told, keys_lawful}
use Rattle.convoy_budget.proofs.rows.budgets.Goals as goal

pub budget_each-requires-clause-lawful : goal.budget_each-requires-clause-lawful
budget_each-requires-clause-lawful g c κs within =
    rw (c.scenario-scenario.ensures.value, c.deref-2.ensures.value, c.in_ok-keys.ensures)
    (keys_lawful c.args.instance.now c.deref.result.now c.args.targets.now c.requires.lawful)

pub returns : goal.returns
returns g c =
    let all = all_told c.args.options.now c.args.of_ceiling c.args.span c.args.instance.now c.args.targets.now c.deref-2.result.now c.in_ok-rows.rows.items c.in_ok-all_values.field-0
    (c.deref-2.ensures.value ∙ c.in_ok-keys.ensures
    ∙ ap (λ (ways : List Way). flat_map (keys_of ways) c.args.targets.now) (c.deref.ensures.value ∙ c.in_ok-ways.ensures))
    (rw c.scenario-scenario.ensures.value at c.in_ok-rows.ensures) c.in_ok-all_values.ensures in
    record { told = all.0; err = all.1 }
