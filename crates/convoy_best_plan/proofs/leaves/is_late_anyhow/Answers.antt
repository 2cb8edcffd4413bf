use Rattle.std.proofs.Common.{get_or}
use Rattle.std.proofs.lemmas.List.Elements.{Contains-get_or}
use Rattle.convoy_best_order.proofs.Steps.{no_target}
use Rattle.convoy_best_plan.proofs.leaves.is_late_anyhow.Goals as goal

pub returns-then-is_target_late : goal.returns-then-is_target_late
returns-then-is_target_late c = λ yes. record {
  target = get_or c.args.targets.now c.loop-target.target-index no_target;
  of_target = Contains-get_or c.args.targets.now c.loop-target.target-index no_target c.loop-target-test.true;
  total = c.total_known-total.result;
  total_low = c.total_known-total.ensures;
  late = c.is_target_late.ensures c.if-is_target_late.true;
}
