-- The schedule of the least delays.
use Rattle.std.proofs.Common.{◌≡◌, ap, subst, sym}
use Rattle.convoy_scenario.specs.Scenario.{Scenario}
use Rattle.convoy_packets.specs.Assignment.{AreWithin, IsAssignment, Schedule}
use Rattle.convoy_packets.specs.ScheduleLaws.{FixedOrderIsOrder}
use Rattle.convoy_packets.specs.Order.{IsOrder, Order}
use Rattle.convoy_packets.specs.Table.{PacketTable, least_of, table_of}

-- the least delays, with ties in the fixed order, are an assignment
pub least_assigned : (plan : Scenario) (table : PacketTable) (schedule : Schedule) → FixedOrderIsOrder → table ≡ table_of plan → schedule ≡ least_of table.ranges → AreWithin table.ranges schedule.delays → IsAssignment plan schedule
least_assigned plan table schedule law of_plan is within = record {
  delays = subst (λ (t : PacketTable). AreWithin t.ranges schedule.delays) of_plan within;
  order = subst (λ (o : Order). IsOrder plan o) (sym (ap (λ (s : Schedule). s.order) is)) (law plan);
}
