use Rattle.convoy_seek.proofs.Schedules.{greatest_assigned}
use Rattle.convoy_seek.proofs.seeking.greatest_twice.Goals as goal

pub returns-clause-kept : goal.returns-clause-kept
returns-clause-kept c =
    let kept = c.in_ok-greatest in
    greatest_assigned c.args.instance.now _ kept.field-0 c.fixed_order_is_order.ensures c.table-table.ensures.value kept.ensures.value kept.ensures.within

pub returns-clause-tried : goal.returns-clause-tried
returns-clause-tried c =
    let tried = c.in_ok-greatest-2 in
    greatest_assigned c.args.instance.now _ tried.field-0 c.fixed_order_is_order.ensures c.table-table.ensures.value tried.ensures.value tried.ensures.within
