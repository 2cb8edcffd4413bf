use Rattle.convoy_seek.proofs.Schedules.{greatest_assigned}
use Rattle.convoy_ceiling.proofs.plan.slowest.Goals as goal

pub returns : goal.returns
returns c =
    greatest_assigned c.args.traffic.now _ c.in_ok-schedule.schedule c.fixed_order_is_order.ensures c.table.ensures.value c.in_ok-schedule.ensures.value c.in_ok-schedule.ensures.within
