use Rattle.std.proofs.Common.{arith}
use Rattle.convoy_best_plan.specs.Leaves.{total_known_at}
use Rattle.convoy_best_plan.proofs.Summing.{sum_more}
use Rattle.convoy_best_plan.proofs.leaves.total_known.Goals as goal

pub loop-message-preserved : goal.loop-message-preserved
loop-message-preserved c =
    let next = sum_more (total_known_at c.args.plan.now c.args.scenario.now c.args.sites.now) c.loop-message.message in
    let so_far = c.loop-message.invariant in
    omega (arith, next, so_far, c.total_known_at.ensures, c.saturating_add-total.ensures)
