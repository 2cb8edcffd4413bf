-- The lines of the numbers below, and one line more.
use Rattle.std.proofs.Common.{◌≡◌, ℕ, ◌+◌, List, ◌++◌, flat_map, ap, sym, ◌∙◌, append_assoc}
use Rattle.std.specs.List.{range_with_len}
use Rattle.convoy_stamps.proofs.Loops.{flat_map_range_more}

pub more_lines : (of : ℕ → List ℕ) (n : ℕ) (front old new : List ℕ) → old ≡ front ++ flat_map of (range_with_len 0 n) → new ≡ old ++ of n
    → new ≡ front ++ flat_map of (range_with_len 0 (n + 1))
more_lines of n front old new before more =
    more
    ∙ ap (λ (text : List ℕ). text ++ of n) before
    ∙ append_assoc front (flat_map of (range_with_len 0 n)) (of n)
    ∙ ap (λ (text : List ℕ). front ++ text) (sym (flat_map_range_more of n))
