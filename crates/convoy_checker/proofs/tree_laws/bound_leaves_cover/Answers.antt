use Rattle.std.proofs.Common.{arith}
use Rattle.convoy_checker.proofs.tree_laws.bound_leaves_cover.Goals as goal

pub returns : goal.returns
returns c plan latency region schedule lawful is_region closed member order =
    let assigned = c.members_are_assignments.ensures plan region.ranges schedule is_region.inside member.0 order in
    omega (arith, c.plain_from_origin_holds.ensures plan region lawful is_region schedule assigned member, closed)
