-- The first of some numbers that passes two tests, found number by number.
use Rattle.std.proofs.Common.{◌≡◌, ℕ, suc, ◌+◌, ◌-◌, ◌<◌, ◌≤◌, Bool, true, false, ◌&&◌, ◌∷◌, filter, find, Option, Some, unwrap_or, cond, refl, sym, ap, ap₂, ◌∙◌, arith}
use Rattle.std.specs.List.{range_with_len}

-- of the numbers from `from` on that pass the first test, the first that passes the second; 0 where none does
pub first_passing : (ℕ → Bool) → (ℕ → Bool) → ℕ → ℕ → ℕ
first_passing p q from more = unwrap_or (find q (filter p (range_with_len from more))) 0

-- the next number passes both, or the search goes on
next : (p q : ℕ → Bool) (from more : ℕ) → first_passing p q from (suc more) ≡ cond (p from && q from) from (first_passing p q (from + 1) more)
unfolding first_passing
next p q from more = by_first (p from) where
  by_second : (b : Bool) (o : Option ℕ) → unwrap_or (cond b (Some from) o) 0 ≡ cond b from (unwrap_or o 0)
  by_second true o = refl
  by_second false o = refl

  by_first : (a : Bool)
      → unwrap_or (find q (cond a (from ∷ filter p (range_with_len (from + 1) more)) (filter p (range_with_len (from + 1) more)))) 0
      ≡ cond (a && q from) from (unwrap_or (find q (filter p (range_with_len (from + 1) more))) 0)
  by_first true = by_second (q from) (find q (filter p (range_with_len (from + 1) more)))
  by_first false = refl

step : (p q : ℕ → Bool) (total i end : ℕ) → i < end → first_passing p q i (end - i) ≡ total
    → cond (p i && q i) i (first_passing p q (i + 1) (end - (i + 1))) ≡ total
step p q total i end below is =
    let more : end - i ≡ suc (end - (i + 1)) = omega arith in
    sym (next p q i (end - (i + 1))) ∙ sym (ap (first_passing p q i) more) ∙ is

-- the number that is found
pub passing_found : (p q : ℕ → Bool) (total i end : ℕ) → i < end → p i ≡ true → q i ≡ true → first_passing p q i (end - i) ≡ total → i ≡ total
passing_found p q total i end below first second is =
    sym (ap₂ (λ a b. cond (a && b) i (first_passing p q (i + 1) (end - (i + 1)))) first second) ∙ step p q total i end below is

-- one number more that fails a test
pub passing_next : (p q : ℕ → Bool) (total i end : ℕ) → i < end → (p i && q i) ≡ false → first_passing p q i (end - i) ≡ total
    → first_passing p q (i + 1) (end - (i + 1)) ≡ total
passing_next p q total i end below fails is =
    sym (ap (λ a. cond a i (first_passing p q (i + 1) (end - (i + 1)))) fails) ∙ step p q total i end below is

-- no number left
pub passing_none : (p q : ℕ → Bool) (total i end : ℕ) → end ≤ i → first_passing p q i (end - i) ≡ total → 0 ≡ total
unfolding first_passing
passing_none p q total i end past is =
    let none : end - i ≡ 0 = omega arith in
    sym (ap (λ more. unwrap_or (find q (filter p (range_with_len i more))) 0) none) ∙ is

-- all numbers below a count
pub passing_all : (p q : ℕ → Bool) (end count : ℕ) → end ≡ count → first_passing p q 0 end ≡ unwrap_or (find q (filter p (range_with_len 0 count))) 0
unfolding first_passing
passing_all p q end count is = ap (λ n. unwrap_or (find q (filter p (range_with_len 0 n))) 0) is
