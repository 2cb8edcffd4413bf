use Rattle.std.proofs.Common.{get_or, arith}
use Rattle.std.proofs.lemmas.List.Elements.{Contains-get_or}
use Rattle.convoy_sim.proofs.Membership.{in_greatest, in_of_contains}
use Rattle.convoy_best_plan.specs.Leaves.{way_by}
use Rattle.convoy_best_plan.proofs.leaves.commit_known.Goals as goal

pub loop-via-preserved : goal.loop-via-preserved
loop-via-preserved c =
    let most =
    in_greatest (way_by c.args.plan.now c.args.sites.now c.sender-sender.result c.origin-origin.result c.args.group) (get_or c.destinations-groups.result.now c.loop-via.via-index 0)
    c.destinations-groups.result.now
    (in_of_contains _ c.destinations-groups.result.now (Contains-get_or c.destinations-groups.result.now c.loop-via.via-index 0 c.loop-via-test.true)) in
    let so_far = c.loop-via.invariant in
    omega (arith, most, so_far, c.way_by.ensures, c.max-longest.ensures)
