use Rattle.convoy_seek.proofs.Schedules.{greatest_assigned}
use Rattle.convoy_finishes.proofs.starts.greatest.Goals as goal

pub returns : goal.returns
returns c =
    let made = c.in_ok-schedule in
    greatest_assigned c.args.instance.now _ made.schedule c.fixed_order_is_order.ensures c.table.ensures.value made.ensures.value made.ensures.within
