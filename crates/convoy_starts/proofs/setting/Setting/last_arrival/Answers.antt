use Rattle.std.proofs.Common.{◌≡◌, ℕ, max, map, take, get_or, sym, ap, ◌∙◌, arith}
use Rattle.convoy_sim.specs.Times.{greatest}
use Rattle.convoy_sure.specs.Windows.{tables_by}
use Rattle.convoy_starts.proofs.Loops.{greatest_more}
use Rattle.convoy_starts.proofs.setting.Setting.last_arrival.Goals as goal

pub loop-group-preserved : goal.loop-group-preserved
loop-group-preserved c =
    let f : ℕ → ℕ = (tables_by c.args.self.now.windows.now).times.greatest_arrival c.target_message-target.result in
    let groups = c.destinations-group-items.result.now in
    let i : ℕ = c.loop-group.group-index in
    let so_far : c.loop-group.last ≡ greatest (map f (take i groups)) = c.loop-group.invariant.so_far in
    let here : c.greatest_arrival.result ≡ f (get_or groups i 0) = c.greatest_arrival.ensures.value in
    record {
      so_far = c.max-last.ensures
          ∙ ap (λ (n : ℕ). max n c.greatest_arrival.result) so_far
          ∙ ap (λ (n : ℕ). max (greatest (map f (take i groups))) n) here
          ∙ sym (greatest_more f groups i c.loop-group-test.true);
      fits = omega (arith, c.max-last.ensures, c.loop-group.invariant.fits, c.greatest_arrival.ensures.fits);
    }
