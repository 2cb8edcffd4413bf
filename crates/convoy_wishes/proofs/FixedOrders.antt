-- The greatest delays of a box, with ties in the fixed order.
use Rattle.std.proofs.Common.{◌≡◌, ap, subst, sym}
use Rattle.convoy_scenario.specs.Scenario.{Scenario}
use Rattle.convoy_packets.specs.Assignment.{IsAssignment, Schedule}
use Rattle.convoy_packets.specs.ScheduleLaws.{FixedOrderIsOrder}
use Rattle.convoy_packets.specs.Order.{IsOrder, Order}
use Rattle.convoy_intervals.specs.Boxes.{Box, IsBox, IsIn, greatest_of}
use Rattle.convoy_intervals.specs.BoxLaws.{MembersAreAssignments}

pub greatest_assigned : (plan : Scenario) (box : Box) (schedule : Schedule) → MembersAreAssignments → FixedOrderIsOrder → IsBox plan box → IsIn box schedule → schedule ≡ greatest_of box → IsAssignment plan schedule
greatest_assigned plan box schedule members fixed inside member is =
    let order : IsOrder plan schedule.order = subst (λ (o : Order). IsOrder plan o) (sym (ap (λ (s : Schedule). s.order) is)) (fixed plan) in
    members plan box schedule inside member order
