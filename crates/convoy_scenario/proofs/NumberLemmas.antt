-- The numbers of the groups that are named, one group after another.
use Rattle.std.proofs.Common.{◌≡◌, ℕ, zero, suc, ◌+◌, ◌<◌, ◌==◌, Bool, true, false, cond, ◌||◌, List, [], ◌∷◌, ◌++◌, length, get_or, All, refl, sym, ap, ◌∙◌, eq-eqb, zero-add, add-zero, add-one, arith, filter}
use Rattle.std.specs.List.{range_with_len, list_any}
use Rattle.std.specs.List.Sorted.{IsStrictlyIncreasing}
use Rattle.std.proofs.lemmas.Bool.{false≢true}
use Rattle.std.proofs.lemmas.List.Elements.{filter-append, All-filter}
use Rattle.std.proofs.lemmas.List.FromFn.{length-range_with_len, get_or-range_with_len}
use Rattle.std.proofs.lemmas.List.Kept.{IsStrictlyIncreasing-filter}
use Rattle.convoy_draft.specs.Checks.{is_among}
use Rattle.convoy_scenario.specs.Numbering.{numbers_of}

-- one more number at the end of a range
pub range_with_len-more : (a n : ℕ) → range_with_len a (suc n) ≡ range_with_len a n ++ (a + n) ∷ []
range_with_len-more a zero = ap (λ x. x ∷ []) (sym (add-zero a))
range_with_len-more a (suc n) =
    let e : (a + 1) + n ≡ a + suc n = omega arith in
    ap (λ xs. a ∷ xs) (range_with_len-more (a + 1) n ∙ ap (λ x. range_with_len (a + 1) n ++ x ∷ []) e)

-- the number next to pass or not
pub filter_range_more : (p : ℕ → Bool) (n : ℕ) → filter p (range_with_len 0 (n + 1)) ≡ filter p (range_with_len 0 n) ++ cond (p n) (n ∷ []) []
filter_range_more p n =
    let last : range_with_len 0 (suc n) ≡ range_with_len 0 n ++ n ∷ [] = range_with_len-more 0 n ∙ ap (λ x. range_with_len 0 n ++ x ∷ []) (zero-add n) in
    ap (λ m. filter p (range_with_len 0 m)) (add-one n) ∙ ap (filter p) last ∙ filter-append p (range_with_len 0 n) (n ∷ [])

-- what passes the filter and a test is found behind the filter
list_any-filter : (p q : ℕ → Bool) (xs : List ℕ) (k d : ℕ) → k < length xs → p (get_or xs k d) ≡ true → q (get_or xs k d) ≡ true → list_any q (filter p xs) ≡ true
list_any-filter p q [] k d within kept passed = absurd (omega arith)
list_any-filter p q (x ∷ xs) zero d within kept passed = rw (kept, passed) refl
list_any-filter p q (x ∷ xs) (suc k) d within kept passed =
    let rest = list_any-filter p q xs k d (omega arith) kept passed in
    elim (p x) as (λ b. list_any q (cond b (x ∷ filter p xs) (filter p xs)) ≡ true) [
      | true ↦ elim (q x) as (λ b. (b || list_any q (filter p xs)) ≡ true) [ true ↦ refl | false ↦ rest ]
      | false ↦ rest
    ]

length-list_any : (q : ℕ → Bool) (xs : List ℕ) → list_any q xs ≡ true → 0 < length xs
length-list_any q [] found = absurd (false≢true found)
length-list_any q (x ∷ xs) found = omega arith

range_rises : (a n : ℕ) → IsStrictlyIncreasing (range_with_len a n)
range_rises a n k within =
    let low : k < n = omega (arith, length-range_with_len a n) in
    let high : k + 1 < n = omega (arith, length-range_with_len a n) in
    rw (get_or-range_with_len a n k 0 low, get_or-range_with_len a n (k + 1) 0 high) (omega arith)

range_below : (n : ℕ) → All (λ g. g < n) (range_with_len 0 n)
range_below n k d within =
    let low : k < n = omega (arith, length-range_with_len 0 n) in
    rw (get_or-range_with_len 0 n k d low) (omega arith)

module _ (groups named : List (List ℕ)) where
  -- a group that is named is among the numbers
  pub numbers_have : (g : ℕ) → g < length groups → is_among (get_or groups g []) named ≡ true → list_any (λ h. h == g) (numbers_of groups named) ≡ true
  numbers_have g within some =
      let p : ℕ → Bool = λ h. is_among (get_or groups h []) named in
      let at : get_or (range_with_len 0 (length groups)) g 0 ≡ g = get_or-range_with_len 0 (length groups) g 0 within ∙ zero-add g in
      list_any-filter p (λ h. h == g) _ g 0 (rw (length-range_with_len 0 (length groups)) within) (rw at some) (rw at (eq-eqb g g refl))

  pub numbers_some : (g : ℕ) → g < length groups → is_among (get_or groups g []) named ≡ true → 0 < length (numbers_of groups named)
  numbers_some g within some = length-list_any _ _ (numbers_have g within some)

  pub numbers_rise : IsStrictlyIncreasing (numbers_of groups named)
  numbers_rise = IsStrictlyIncreasing-filter _ _ (range_rises 0 (length groups))

  pub numbers_below : All (λ g. g < length groups) (numbers_of groups named)
  numbers_below = All-filter _ (λ g. g < length groups) _ (range_below (length groups))
