-- Sums over numbers, one more at a time.
use Rattle.std.proofs.Common.{◌≡◌, ℕ, ◌+◌, [], ◌∷◌, add-one, zero-add, ap, ◌∙◌}
use Rattle.std.specs.List.{range_with_len, sum_by}
use Rattle.std.proofs.lemmas.List.Sums.{sum_by-append}
use Rattle.convoy_scenario.proofs.NumberLemmas.{range_with_len-more}

pub sum_more : (f : ℕ → ℕ) (n : ℕ) → sum_by f (range_with_len 0 (n + 1)) ≡ sum_by f (range_with_len 0 n) + f n
sum_more f n =
    ap (λ k. sum_by f (range_with_len 0 k)) (add-one n) ∙ ap (sum_by f) (range_with_len-more 0 n)
    ∙ sum_by-append f (range_with_len 0 n) ((0 + n) ∷ [])
    ∙ ap (λ k. sum_by f (range_with_len 0 n) + k) (ap (λ k. 0 + f k) (zero-add n) ∙ zero-add (f n))
