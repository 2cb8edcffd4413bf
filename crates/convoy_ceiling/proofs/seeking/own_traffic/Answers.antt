use Rattle.convoy_ceiling.proofs.Schedules.{least_assigned}
use Rattle.convoy_ceiling.proofs.seeking.own_traffic.Goals as goal

pub of-record-requires : goal.of-record-requires
of-record-requires c = record {
  assignment = least_assigned c.in_ok-traffic.traffic _ c.in_ok-schedule.schedule c.fixed_order_is_order.ensures c.table.ensures.value c.in_ok-schedule.ensures.value c.in_ok-schedule.ensures.within;
}
