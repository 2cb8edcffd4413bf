use Rattle.std.proofs.Common.{rules, subst, sym}
use Rattle.convoy_rows.proofs.OfKeys.{by_keys}
use Rattle.convoy_budget.specs.Budgets.{MayBeKey, MayTell}
use Rattle.convoy_budget.proofs.rows.budget_each.Goals as goal

pub make_each-requires-clause-takes : goal.make_each-requires-clause-takes
make_each-requires-clause-takes g c = λ κs outlive k d small lent watch is.
    ((subst (MayBeKey c.args.scenario.now) (sym is) (c.requires.lawful k d small), c.requires.span), search rules)

pub returns : goal.returns
returns g c = by_keys _ (MayTell c.args.options.now c.args.of_ceiling c.args.span c.args.scenario.now) _ c.in_ok-rows.rows.items (λ lent watch row made. made) c.in_ok-rows.ensures
