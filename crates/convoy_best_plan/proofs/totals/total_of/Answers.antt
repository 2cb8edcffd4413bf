use Rattle.std.proofs.Common.{◌+◌, ap₂, sym, ◌∙◌, arith}
use Rattle.convoy_best_plan.specs.Totals.{total_at}
use Rattle.convoy_best_plan.proofs.Summing.{sum_more}
use Rattle.convoy_best_plan.proofs.totals.total_of.Goals as goal

pub loop-message-preserved : goal.loop-message-preserved
loop-message-preserved c = record {
  value = ap₂ ◌+◌ c.loop-message.invariant.value c.total_at-total.ensures.value ∙ sym (sum_more (total_at c.args.scenario.now) c.loop-message.message);
  few = omega (arith, c.loop-message.invariant.few, c.total_at-total.ensures.few);
}
