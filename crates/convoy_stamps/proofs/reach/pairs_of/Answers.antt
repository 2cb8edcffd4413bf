use Rattle.std.proofs.Common.{List, ℕ, ◌++◌, map, sym, ap, ◌∙◌}
use Rattle.convoy_scenario.specs.Scenario.{message_at}
use Rattle.convoy_stamps.specs.declared.pair.Pair.{Pair}
use Rattle.convoy_stamps.specs.Reach.{pair_of}
use Rattle.convoy_stamps.proofs.Loops.{flat_map_range_more}
use Rattle.convoy_stamps.proofs.reach.pairs_of.Goals as goal

pub loop-message-preserved : goal.loop-message-preserved
loop-message-preserved c =
    let of : ℕ → List Pair = λ m. map (pair_of m) (message_at c.args.scenario.now m).destinations in
    let m : ℕ = c.loop-message.message in
    c.in_ok-add_pairs.ensures ∙ ap (λ (ps : List Pair). ps ++ of m) c.loop-message.invariant ∙ sym (flat_map_range_more of m)
