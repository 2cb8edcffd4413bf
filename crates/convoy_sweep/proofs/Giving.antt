-- One more of what a key is given.
use Rattle.std.proofs.Common.{◌≡◌, ℕ, ◌+◌, Bool, List, [], ◌∷◌, ◌++◌, map, sym, ap, ◌∙◌, arith}
use Rattle.std.specs.List.{range_with_len}
use Rattle.std.proofs.lemmas.List.FromFn.{map-range_with_len_more}
use Rattle.convoy_sweep.specs.declared.kinds.Given.{Given}
use Rattle.convoy_sweep.specs.declared.kinds.ValueRange.{ValueRange}
use Rattle.convoy_sweep.specs.Values.{given_at}

pub given_more : (envelope : Bool) (range : ValueRange) (n : ℕ) (old new : List Given) (given : Given) →
    new ≡ old ++ given ∷ [] → old ≡ map (given_at envelope range) (range_with_len 0 n) → given ≡ given_at envelope range n →
    new ≡ map (given_at envelope range) (range_with_len 0 (n + 1))
given_more envelope range n old new given pushed so_far is =
    let same : 0 + n ≡ n = omega arith in
    pushed ∙ ap (λ (gs : List Given). gs ++ given ∷ []) so_far
    ∙ ap (λ (g : Given). map (given_at envelope range) (range_with_len 0 n) ++ g ∷ []) is
    ∙ sym (map-range_with_len_more (given_at envelope range) 0 n n same)
