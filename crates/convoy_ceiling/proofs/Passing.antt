-- The greatest of some numbers that pass a test, found number by number.
use Rattle.std.proofs.Common.{◌≡◌, ℕ, suc, ◌+◌, ◌-◌, ◌<◌, ◌≤◌, max, Bool, true, false, ◌∷◌, map, filter, fold, cond, refl, sym, ap, ◌∙◌, arith}
use Rattle.std.specs.List.{range_with_len}

-- the greatest of `so_far` and of what f gives for those of the numbers from `from` on that pass the test
pub greatest_passing : (ℕ → Bool) → (ℕ → ℕ) → ℕ → ℕ → ℕ → ℕ
greatest_passing p f so_far from more = fold max so_far (map f (filter p (range_with_len from more)))

passing-suc : (p : ℕ → Bool) (f : ℕ → ℕ) (so_far from more : ℕ)
    → greatest_passing p f so_far from (suc more) ≡ greatest_passing p f (cond (p from) (max so_far (f from)) so_far) (from + 1) more
unfolding greatest_passing
passing-suc p f so_far from more = by_test (p from) where
  by_test : (b : Bool) → fold max so_far (map f (cond b (from ∷ filter p (range_with_len (from + 1) more)) (filter p (range_with_len (from + 1) more))))
      ≡ fold max (cond b (max so_far (f from)) so_far) (map f (filter p (range_with_len (from + 1) more)))
  by_test true = refl
  by_test false = refl

-- one number more
pub passing_step : (p : ℕ → Bool) (f : ℕ → ℕ) (total so_far next i end : ℕ) → i < end → next ≡ cond (p i) (max so_far (f i)) so_far
    → greatest_passing p f so_far i (end - i) ≡ total → greatest_passing p f next (i + 1) (end - (i + 1)) ≡ total
passing_step p f total so_far next i end below is all =
    let more : end - i ≡ suc (end - (i + 1)) = omega arith in
    ap (λ n. greatest_passing p f n (i + 1) (end - (i + 1))) is
    ∙ sym (passing-suc p f so_far i (end - (i + 1)))
    ∙ sym (ap (greatest_passing p f so_far i) more)
    ∙ all

-- no number left
pub passing_end : (p : ℕ → Bool) (f : ℕ → ℕ) (total so_far i end : ℕ) → end ≤ i
    → greatest_passing p f so_far i (end - i) ≡ total → so_far ≡ total
unfolding greatest_passing
passing_end p f total so_far i end past all =
    let none : end - i ≡ 0 = omega arith in
    sym (ap (λ more. fold max so_far (map f (filter p (range_with_len i more)))) none) ∙ all

-- all numbers below a count
pub passing_all : (p : ℕ → Bool) (f : ℕ → ℕ) (end count : ℕ) → end ≡ count
    → greatest_passing p f 0 0 end ≡ fold max 0 (map f (filter p (range_with_len 0 count)))
unfolding greatest_passing
passing_all p f end count is = ap (λ n. fold max 0 (map f (filter p (range_with_len 0 n)))) is
