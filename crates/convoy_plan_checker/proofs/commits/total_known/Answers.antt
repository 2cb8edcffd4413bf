use Rattle.std.proofs.Common.{◌+◌, ap₂, sym, ◌∙◌, arith}
use Rattle.convoy_best_plan.specs.Leaves.{total_known_at}
use Rattle.convoy_best_plan.proofs.Summing.{sum_more}
use Rattle.convoy_plan_checker.proofs.commits.total_known.Goals as goal

pub loop-message-preserved : goal.loop-message-preserved
loop-message-preserved c = record {
  value = ap₂ ◌+◌ c.loop-message.invariant.value c.total_known_at-total.ensures.value
      ∙ sym (sum_more (total_known_at c.args.plan.now c.args.scenario.now c.args.sites.now) c.loop-message.message);
  few = omega (arith, c.loop-message.invariant.few, c.total_known_at-total.ensures.few);
}
