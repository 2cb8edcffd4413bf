use Rattle.std.proofs.Common.{List, ℕ, ◌-◌, get_or, sym, ap, ◌∙◌}
use Rattle.convoy_sure.specs.Windows.{arrivals_before, arrivals_by}
use Rattle.convoy_sure.proofs.Loops.{fold_more}
use Rattle.convoy_sure.proofs.windows.Windows.lower_all_arrivals.Goals as goal

pub loop-from-preserved : goal.loop-from-preserved
loop-from-preserved c =
    let m : ℕ = c.args.message in
    let groups : List ℕ = c.destinations-from-items.result.now in
    let i : ℕ = c.loop-from.from-index in
    let from : ℕ = get_or groups i 0 in
    let step : List ℕ → ℕ → List ℕ = arrivals_before c.args.scenario.now c.args.self.now m c.args.group c.args.tick in
    record {
      so_far =
          c.lower_arrivals.ensures.value
          ∙ ap (λ (sent : ℕ). arrivals_by c.args.scenario.now c.args.self.now m from sent c.loop-from.arrivals)
          (c.saturating_sub-sent.ensures ∙ ap (λ (least : ℕ). c.args.tick - least) c.least_proposal.ensures.value)
          ∙ ap (λ (entries : List ℕ). step entries from) c.loop-from.invariant.so_far
          ∙ sym (fold_more step c.args.arrivals.now groups i 0 c.loop-from-test.true);
      limit = λ last all. c.lower_arrivals.ensures.limit last (c.loop-from.invariant.limit last all);
    }
