use Rattle.std.proofs.Common.{length, ap, arith}
use Rattle.convoy_sim.proofs.Destinations.{few_destinations}
use Rattle.convoy_plan_checker.proofs.commits.total_known_at.Goals as goal

pub overflow_add-total : goal.overflow_add-total
overflow_add-total c =
    let few = few_destinations c.args.scenario.now c.destinations-groups.ensures.lawful c.args.message c.requires in
    let long = ap length c.destinations-groups.ensures.value in
    let within = c.loop-group-test.true in
    let so_far = c.loop-group.invariant.few in
    let next = c.commit_known.ensures.fits in
    let same = c.from-total.ensures in
    omega arith
