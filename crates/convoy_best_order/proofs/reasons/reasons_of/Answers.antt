use Rattle.convoy_best_order.proofs.Told.{reasons_told}
use Rattle.convoy_best_order.proofs.reasons.reasons_of.Goals as goal

pub returns : goal.returns
returns g c =
    let all = reasons_told c.args.options.now c.args.span c.args.scenario.now c.args.targets.now c.args.ahead.now c.args.left.now c.in_ok-reasons.reasons.items c.in_ok-all_values.field-0
    c.in_ok-reasons.ensures c.in_ok-all_values.ensures in
    record { groups = all.0; all = all.1; costs = all.2; dear = all.3 }
