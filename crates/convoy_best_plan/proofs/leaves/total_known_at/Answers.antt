use Rattle.std.proofs.Common.{arith}
use Rattle.std.proofs.lemmas.List.Sums.{sum_by_more}
use Rattle.convoy_best_plan.specs.Leaves.{commit_known}
use Rattle.convoy_best_plan.proofs.leaves.total_known_at.Goals as goal

pub loop-group-preserved : goal.loop-group-preserved
loop-group-preserved c =
    let next =
    sum_by_more (commit_known c.args.plan.now c.args.scenario.now c.args.sites.now c.args.message) c.destinations-groups.result.now c.loop-group.group-index 0
    c.loop-group-test.true in
    let so_far = c.loop-group.invariant in
    omega (arith, next, so_far, c.commit_known.ensures, c.from.ensures, c.saturating_add-total.ensures)
