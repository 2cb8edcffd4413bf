-- Loops over the first numbers, one number more at a time. This file is open to the crates above.
use Rattle.std.proofs.Common.{◌≡◌, ℕ, ◌+◌, zero, suc, max, Bool, true, false, ◌&&◌, cond, List, [], ◌∷◌, ◌++◌, map, filter, fold, length, flat_map, refl, sym, ap, ◌∙◌, arith}
use Rattle.std.specs.List.{range_with_len}
use Rattle.std.proofs.lemmas.List.{flat_map_more}
use Rattle.std.proofs.lemmas.List.Elements.{filter-append}

-- one number more
pub range_push : (from n : ℕ) → range_with_len from (suc n) ≡ range_with_len from n ++ (from + n) ∷ []
range_push from zero = ap (λ k. k ∷ []) (omega arith)
range_push from (suc n) =
    ap (λ ks. from ∷ ks) (range_push (from + 1) n ∙ ap (λ k. range_with_len (from + 1) n ++ k ∷ []) (omega arith))

-- the next number passes the test, or it does not
pub filter_range_more : (p : ℕ → Bool) (n : ℕ) → filter p (range_with_len 0 (n + 1)) ≡ filter p (range_with_len 0 n) ++ cond (p n) (n ∷ []) []
filter_range_more p n =
    let next : n + 1 ≡ suc n = omega arith in
    let here : 0 + n ≡ n = omega arith in
    ap (λ k. filter p (range_with_len 0 k)) next
    ∙ ap (filter p) (range_push 0 n ∙ ap (λ k. range_with_len 0 n ++ k ∷ []) here)
    ∙ filter-append p (range_with_len 0 n) (n ∷ [])

-- the pieces that f gives, one more
pub flat_map_range_more : {X : Type 0} (f : ℕ → List X) (n : ℕ) → flat_map f (range_with_len 0 (n + 1)) ≡ flat_map f (range_with_len 0 n) ++ f n
flat_map_range_more f n =
    let next : n + 1 ≡ suc n = omega arith in
    let here : 0 + n ≡ n = omega arith in
    ap (λ k. flat_map f (range_with_len 0 k)) next
    ∙ ap (flat_map f) (range_push 0 n ∙ ap (λ k. range_with_len 0 n ++ k ∷ []) here)
    ∙ sym (flat_map_more f [] (range_with_len 0 n) n)

-- how many pass
pub count_more : (p : ℕ → Bool) (n : ℕ) (b : Bool) → p n ≡ b → length (filter p (range_with_len 0 (n + 1))) ≡ length (filter p (range_with_len 0 n)) + cond b 1 0
count_more p n b is =
    ap length (filter_range_more p n ∙ ap (λ t. filter p (range_with_len 0 n) ++ cond t (n ∷ []) []) is) ∙ by_test b (filter p (range_with_len 0 n)) where
      by_test : (b : Bool) (xs : List ℕ) → length (xs ++ cond b (n ∷ []) []) ≡ length xs + cond b 1 0
      by_test true [] = refl
      by_test false [] = refl
      by_test true (x ∷ xs) = let rest = by_test true xs in omega arith
      by_test false (x ∷ xs) = let rest = by_test false xs in omega arith

-- the greatest of a number and what f gives for those that pass
pub greatest_more : (a : ℕ) (f : ℕ → ℕ) (p : ℕ → Bool) (n : ℕ) (b : Bool) → p n ≡ b
    → fold max a (map f (filter p (range_with_len 0 (n + 1))))
    ≡ cond b (max (fold max a (map f (filter p (range_with_len 0 n)))) (f n)) (fold max a (map f (filter p (range_with_len 0 n))))
greatest_more a f p n b is =
    ap (λ xs. fold max a (map f xs)) (filter_range_more p n ∙ ap (λ t. filter p (range_with_len 0 n) ++ cond t (n ∷ []) []) is)
    ∙ by_test b a (filter p (range_with_len 0 n)) where
      by_test : (b : Bool) (a : ℕ) (xs : List ℕ) → fold max a (map f (xs ++ cond b (n ∷ []) [])) ≡ cond b (max (fold max a (map f xs)) (f n)) (fold max a (map f xs))
      by_test true a [] = refl
      by_test false a [] = refl
      by_test true a (x ∷ xs) = by_test true (max a (f x)) xs
      by_test false a (x ∷ xs) = by_test false (max a (f x)) xs

-- two tests, one after the other
pub filter_filter : (p q : ℕ → Bool) (xs : List ℕ) → filter q (filter p xs) ≡ filter (λ x. p x && q x) xs
filter_filter p q [] = refl
filter_filter p q (x ∷ xs) = by_test (p x) (filter_filter p q xs) where
  by_test : (b : Bool) → filter q (filter p xs) ≡ filter (λ y. p y && q y) xs
      → filter q (cond b (x ∷ filter p xs) (filter p xs)) ≡ cond (b && q x) (x ∷ filter (λ y. p y && q y) xs) (filter (λ y. p y && q y) xs)
  by_test true rest = ap (λ zs. cond (q x) (x ∷ zs) zs) rest
  by_test false rest = rest
