use Rattle.convoy_best_order.proofs.Told.{rows_told}
use Rattle.convoy_best_order.proofs.rows.rows_of.Goals as goal

pub returns : goal.returns
returns g c =
    rows_told c.args.options.now c.args.span c.args.scenario.now c.args.order.now c.args.targets.now c.in_ok-rows.rows.items c.in_ok-all_values.field-0 c.in_ok-rows.ensures
    c.in_ok-all_values.ensures
