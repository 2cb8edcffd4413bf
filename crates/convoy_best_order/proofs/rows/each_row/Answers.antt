use Rattle.std.proofs.Common.{rules, subst, sym}
use Rattle.convoy_rows.proofs.OfKeys.{by_keys}
use Rattle.convoy_best_order.specs.Each.{MayBeRow}
use Rattle.convoy_best_order.specs.Targets.{MayBeTarget}
use Rattle.convoy_best_order.proofs.rows.each_row.Goals as goal

pub make_each-requires-clause-takes : goal.make_each-requires-clause-takes
make_each-requires-clause-takes g c = λ κs outlive k d small lent watch is.
    ((subst (MayBeTarget c.args.scenario.now) (sym is) (c.requires.lawful k d small), c.requires.order, c.requires.span), search rules)

pub returns : goal.returns
returns g c =
    by_keys _ (MayBeRow c.args.options.now c.args.span c.args.scenario.now c.args.order.now) _ c.in_ok-rows.rows.items (λ lent watch row made. made) c.in_ok-rows.ensures
