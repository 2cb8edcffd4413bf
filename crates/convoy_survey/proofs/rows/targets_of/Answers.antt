use Rattle.std.proofs.Common.{ℕ, List, ◌++◌, sym, ap, ◌∙◌}
use Rattle.convoy_scenario.specs.Targets.{targets_at}
use Rattle.convoy_stamps.proofs.Loops.{flat_map_range_more}
use Rattle.convoy_survey.proofs.rows.targets_of.Goals as goal

pub loop-message-preserved : goal.loop-message-preserved
loop-message-preserved c =
    let of : ℕ → List (ℕ × ℕ) = targets_at c.args.scenario.now in
    let m : ℕ = c.loop-message.message in
    record {
      targets = c.in_ok-push_message.ensures.targets
          ∙ ap (λ (rows : List (ℕ × ℕ)). rows ++ of m) c.loop-message.invariant.targets ∙ sym (flat_map_range_more of m);
      lawful = c.in_ok-push_message.ensures.lawful;
    }
