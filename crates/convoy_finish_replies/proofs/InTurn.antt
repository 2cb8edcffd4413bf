-- One number more.
use Rattle.std.proofs.Common.{◌≡◌, ℕ, ◌+◌, ◌<◌, inl, inr, List, ◌++◌, flat_map, ap, subst, sym, ◌∙◌, arith}
use Rattle.std.specs.List.{range_with_len}
use Rattle.std.proofs.lemmas.Bool.{cases_lt}
use Rattle.convoy_stamps.proofs.Loops.{flat_map_range_more}

-- what holds of each number below, and of this one, holds of each up to this one
pub one_more : (P : ℕ → Type 0) (i : ℕ) → ((k : ℕ) → k < i → P k) → P i → (k : ℕ) → k < i + 1 → P k
one_more P i below here k less = elim (cases_lt k i) [
  | inl before ↦ below k before
  | inr past ↦
      let same : k ≡ i = omega arith in
      subst P (sym same) here
]

-- the lines of the numbers below, and one line more
pub more_lines : (of : ℕ → List ℕ) (n : ℕ) (old new line : List ℕ) → new ≡ old ++ line → line ≡ of n → old ≡ flat_map of (range_with_len 0 n)
    → new ≡ flat_map of (range_with_len 0 (n + 1))
more_lines of n old new line more is before =
    more
    ∙ ap (λ (lines : List ℕ). lines ++ line) before
    ∙ ap (λ (last : List ℕ). flat_map of (range_with_len 0 n) ++ last) is
    ∙ sym (flat_map_range_more of n)
