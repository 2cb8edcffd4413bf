use Rattle.std.proofs.Common.{List, ℕ, ◌+◌, get_or, sym, ap, ◌∙◌}
use Rattle.convoy_sure.specs.Windows.{entry_at, lowered}
use Rattle.convoy_sure.proofs.Loops.{fold_more}
use Rattle.convoy_sure.proofs.later_cuts.lower_row.Goals as goal

pub loop-to-preserved : goal.loop-to-preserved
loop-to-preserved c =
    let m : ℕ = c.args.message in
    let groups : List ℕ = c.destinations-to-items.result.now in
    let i : ℕ = c.loop-to.to-index in
    let to : ℕ = get_or groups i 0 in
    let step : List ℕ → ℕ → List ℕ = λ entries g. lowered entries m g (c.args.tick + entry_at c.args.delays.now m g) in
    record {
      so_far =
          c.lower_entry.ensures.value
          ∙ ap (λ (delay : ℕ). lowered c.loop-to.entries m to (c.args.tick + delay)) c.entry_at-delay.ensures.value
          ∙ ap (λ (entries : List ℕ). step entries to) c.loop-to.invariant.so_far
          ∙ sym (fold_more step c.args.entries.now groups i 0 c.loop-to-test.true);
      limit = λ last all. c.lower_entry.ensures.limit last (c.loop-to.invariant.limit last all);
    }
