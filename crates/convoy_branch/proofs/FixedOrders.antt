-- Schedules with ties in the fixed order that are assignments.
use Rattle.std.specs.Prelude.{◌≡◌}
use Rattle.std.proofs.Common.{sym, subst}
use Rattle.convoy_scenario.specs.Scenario.{Scenario}
use Rattle.convoy_packets.specs.Assignment.{AreWithin, IsAssignment, Schedule}
use Rattle.convoy_packets.specs.ScheduleLaws.{FixedOrderIsOrder}
use Rattle.convoy_packets.specs.Order.{IsOrder, Order, no_order}
use Rattle.convoy_packets.specs.Table.{PacketTable, table_of}

pub fixed_assigned : (plan : Scenario) (table : PacketTable) (schedule : Schedule) → FixedOrderIsOrder → table ≡ table_of plan → schedule.order ≡ no_order → AreWithin table.ranges schedule.delays → IsAssignment plan schedule
fixed_assigned plan table schedule fixed of_plan none within = record {
  delays = subst (λ (t : PacketTable). AreWithin t.ranges schedule.delays) of_plan within;
  order = subst (λ (o : Order). IsOrder plan o) (sym none) (fixed plan);
}
