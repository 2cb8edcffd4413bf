-- Schedules of given delays, with ties in the fixed order, are assignments.
use Rattle.std.specs.Prelude.{◌≡◌, ℤ, List, Ok}
use Rattle.std.proofs.Common.{ap, sym, subst, inl, inr}
use Rattle.convoy_scenario.specs.Memory.{IsUnlessMemory}
use Rattle.convoy_scenario.specs.Scenario.{Scenario}
use Rattle.convoy_packets.specs.declared.fault.ListFault.TheVariants.{Memory}
use Rattle.convoy_packets.specs.Assignment.{AreWithin, IsAssignment, Schedule}
use Rattle.convoy_packets.specs.Given.{schedule_of}
use Rattle.convoy_packets.specs.ScheduleLaws.{FixedOrderIsOrder, ListsOfDelaysAreSchedules}
use Rattle.convoy_packets.specs.Order.{IsOrder, Order, no_order}
use Rattle.convoy_packets.specs.Table.{PacketTable, table_of}

pub given_assigned : (plan : Scenario) (table : PacketTable) (numbers : List ℤ) (schedule : Schedule) → FixedOrderIsOrder → ListsOfDelaysAreSchedules → table ≡ table_of plan → IsUnlessMemory Memory (schedule_of table.ranges numbers) (Ok schedule) → AreWithin table.ranges schedule.delays → IsAssignment plan schedule
given_assigned plan table numbers schedule fixed lists of_plan (inl e) within = record {
  delays = subst (λ (t : PacketTable). AreWithin t.ranges schedule.delays) of_plan within;
  order = subst (λ (o : Order). IsOrder plan o) (sym ((lists table.ranges numbers schedule).0 (sym e)).2) (fixed plan);
}
given_assigned plan table numbers schedule fixed lists of_plan (inr e) within = absurd cc
