use Rattle.std.proofs.Common.{◌≡◌, ℕ, ◌+◌, suc, max, map, fold, sym, ap, ◌∙◌, arith}
use Rattle.std.specs.List.{range_with_len}
use Rattle.convoy_sim.specs.Delivery.{addressed_to}
use Rattle.convoy_sure.specs.SureLeads.{lead_at, top_of}
use Rattle.convoy_sure.proofs.Loops.{fold_range_more}
use Rattle.convoy_sure.proofs.sure_leads.Scene.sure_time.Goals as goal

pub loop-group-preserved : goal.loop-group-preserved
loop-group-preserved c =
    let f = λ (g : ℕ). top_of (λ z. lead_at c.args.leads.now z g) (addressed_to c.args.self.now.scenario.now g) in
    let g : ℕ = c.loop-group.group in
    let before : ℕ = fold max 0 (map f (range_with_len 0 g)) in
    let more : g + 1 ≡ suc g = omega arith in
    let here : 0 + g ≡ g = omega arith in
    let so_far : c.loop-group.most ≡ before = c.loop-group.invariant.so_far in
    record {
      so_far = c.max-most.ensures
          ∙ ap (λ (n : ℕ). max n c.top_at.result) so_far
          ∙ ap (λ (n : ℕ). max before n) (c.top_at.ensures.value ∙ ap f (sym here))
          ∙ sym (fold_range_more max 0 f g 0)
          ∙ ap (λ (n : ℕ). fold max 0 (map f (range_with_len 0 n))) (sym more);
      small = omega (arith, c.max-most.ensures, c.loop-group.invariant.small, c.top_at.ensures.small);
    }
