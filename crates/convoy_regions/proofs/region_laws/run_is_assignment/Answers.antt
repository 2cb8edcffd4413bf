use Rattle.std.proofs.Common.{refl}
use Rattle.convoy_regions.specs.Regions.{run_of}
use Rattle.convoy_regions.proofs.RunOrders.{order_is}
use Rattle.convoy_regions.proofs.region_laws.run_is_assignment.Goals as goal

pub returns : goal.returns
returns c scenario region is =
    let member = c.greatest_is_member.ensures scenario region.ranges is.inside in
    let order = order_is c.fixed_order_is_order.ensures c.ranks_give_orders.ensures scenario scenario.time region.before refl in
    (member, c.members_are_assignments.ensures scenario region.ranges (run_of scenario region) is.inside member order)
