-- Lists: filters that agree, tests that no element passes, and the greatest of some numbers.
use Rattle.std.proofs.Common.{◌≡◌, ℕ, ◌+◌, ◌<◌, ◌≤◌, zero, suc, max, Bool, true, false, cond, ◌==◌, inl, inr, List, [], ◌∷◌, map, filter, fold, refl, sym, ap, ap₂, ◌∙◌, arith}
use Rattle.std.specs.List.{range_with_len, list_any}
use Rattle.std.proofs.lemmas.Bool.{cases_Bool, cases_eq, cond-true, cond-false, eqb-true, eq-eqb, or_cases, or_left, or_right, or_parts, false≢true}

-- two tests that agree where a third is passed keep the same of what passes that one
pub filters_agree : {X : Type 0} (kept p q : X → Bool) → ((x : X) → kept x ≡ true → p x ≡ q x) → (xs : List X) → filter p (filter kept xs) ≡ filter q (filter kept xs)
filters_agree kept p q agree [] = refl
filters_agree kept p q agree (x ∷ xs) =
    let rest = filters_agree kept p q agree xs in
    elim (cases_Bool (kept x)) [
      | inl e ↦
          ap (filter p) (cond-true (kept x) _ _ e)
          ∙ ap₂ (λ (b : Bool) l. cond b (x ∷ l) l) (agree x e) rest
          ∙ sym (ap (filter q) (cond-true (kept x) _ _ e))
      | inr e ↦ ap (filter p) (cond-false (kept x) _ _ e) ∙ rest ∙ sym (ap (filter q) (cond-false (kept x) _ _ e))
    ]

-- a test that none of some numbers passes
pub none_passes : (p : ℕ → Bool) (start n k : ℕ) → list_any p (range_with_len start n) ≡ false → start ≤ k → k < start + n → p k ≡ false
none_passes p start zero k none low high = absurd (omega arith)
none_passes p start (suc n) k none low high =
    let both = or_parts (p start) (list_any p (range_with_len (start + 1) n)) none in
    elim (cases_eq start k) [
      | inl e ↦ ap p (sym e) ∙ both.0
      | inr d ↦ none_passes p (start + 1) n k both.1 (omega arith) (omega arith)
    ]

-- ---- the greatest of some numbers
greatest_start : (a : ℕ) (xs : List ℕ) → a ≤ fold max a xs
greatest_start a [] = omega arith
greatest_start a (x ∷ xs) = let rest = greatest_start (max a x) xs in omega arith

pub greatest_from : (f : ℕ → ℕ) (g a : ℕ) (xs : List ℕ) → list_any (λ x. x == g) xs ≡ true → f g ≤ fold max a (map f xs)
greatest_from f g a [] is = absurd (false≢true is)
greatest_from f g a (x ∷ xs) is = elim (or_cases (x == g) (list_any (λ y. y == g) xs) is) [
  | inl e ↦
      let same : f x ≡ f g = ap f (eqb-true x g e) in
      let start = greatest_start (max a (f x)) (map f xs) in
      omega arith
  | inr e ↦ greatest_from f g (max a (f x)) xs e
]

-- none of them is greater
pub no_greater : (f : ℕ → ℕ) (g : ℕ) (xs : List ℕ) → list_any (λ x. x == g) xs ≡ true → f g ≤ fold max 0 (map f xs)
no_greater f g xs is = greatest_from f g 0 xs is

-- where none is above the first, it is the first
pub greatest_is_first : (f : ℕ → ℕ) (a : ℕ) (xs : List ℕ) → ((x : ℕ) → list_any (λ y. y == x) xs ≡ true → f x ≤ a) → fold max a (map f xs) ≡ a
greatest_is_first f a [] low = refl
greatest_is_first f a (x ∷ xs) low =
    let first = low x (any_first x xs) in
    let same : max a (f x) ≡ a = omega arith in
    ap (λ b. fold max b (map f xs)) same ∙ greatest_is_first f a xs (λ y is. low y (any_later x y xs is)) where
      any_first : (x : ℕ) (xs : List ℕ) → list_any (λ y. y == x) (x ∷ xs) ≡ true
      any_first x xs = or_left (x == x) _ (eq-eqb x x refl)

      any_later : (x y : ℕ) (xs : List ℕ) → list_any (λ z. z == y) xs ≡ true → list_any (λ z. z == y) (x ∷ xs) ≡ true
      any_later x y xs is = or_right (x == y) _ is
