use Rattle.std.proofs.Common.{◌≡◌, ℕ, ◌+◌, ◌-◌, [], ◌∷◌, min, map, length, fold, sym, ap, ◌∙◌, arith}
use Rattle.std.specs.List.{range_with_len}
use Rattle.std.proofs.lemmas.Grind.{fold-append}
use Rattle.std.proofs.lemmas.List.FromFn.{map-range_with_len_more}
use Rattle.convoy_sure.specs.SureLeads.{lead_at}
use Rattle.convoy_starts.specs.Starts.{room_above}
use Rattle.convoy_starts.proofs.window.window.Goals as goal

pub loop-above-preserved : goal.loop-above-preserved
loop-above-preserved c =
    let value : ℕ = c.args.value in
    let above : ℕ = c.loop-above.above in
    let first : ℕ = value + length c.args.messages.now in
    let f = room_above c.args.sure (λ z. lead_at c.args.leads.now z c.args.group) c.args.messages.now in
    let count : ℕ = above - value in
    let more : (above + 1) - value ≡ count + 1 = omega (arith, c.loop-above.auto.above) in
    let here : value + count ≡ above = omega (arith, c.loop-above.auto.above) in
    let step = ap (fold min first) (map-range_with_len_more f value count above here) ∙ fold-append min first (map f (range_with_len value count)) (f above ∷ []) in
    let whole = ap (λ (n : ℕ). fold min first (map f (range_with_len value n))) more in
    let so_far : c.loop-above.least ≡ fold min first (map f (range_with_len value (above - value))) = c.loop-above.invariant.so_far in
    let now : c.least_room-least.result ≡ min c.loop-above.least (f above) = c.least_room-least.ensures in
    let low = c.loop-above.invariant.small in
    record {
      so_far =
          now ∙ ap (λ (n : ℕ). min n (f above)) so_far ∙ sym step ∙ sym whole;
      small = omega (arith, now);
    }
