use Rattle.std.proofs.Common.{ℕ, List, ◌++◌, sym, ap, ◌∙◌}
use Rattle.convoy_stamps.proofs.Loops.{flat_map_range_more}
use Rattle.convoy_best_order.specs.declared.target.Target.{Target}
use Rattle.convoy_best_order.specs.Targets.{targets_at}
use Rattle.convoy_best_order.proofs.targets.many_targets.Goals as goal

pub loop-message-preserved : goal.loop-message-preserved
loop-message-preserved c =
    let of : ℕ → List Target = targets_at c.args.wanted c.args.deadlines.now c.args.scenario.now in
    let m : ℕ = c.loop-message.message in
    record {
      value = c.in_ok-push_message.ensures.value
          ∙ ap (λ (targets : List Target). targets ++ of m) c.loop-message.invariant.value ∙ sym (flat_map_range_more of m);
      lawful = c.in_ok-push_message.ensures.lawful;
    }
