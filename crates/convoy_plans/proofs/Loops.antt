-- Loops over the first numbers, one number more at a time.
use Rattle.std.proofs.Common.{◌≡◌, ℕ, ◌+◌, zero, suc, Bool, cond, List, [], ◌∷◌, ◌++◌, map, filter, flat_map, sym, ap, ◌∙◌, append_assoc, arith}
use Rattle.std.specs.List.{range_with_len}
use Rattle.std.proofs.lemmas.List.{flat_map_more}
use Rattle.std.proofs.lemmas.List.Elements.{filter-append}
use Rattle.std.proofs.lemmas.List.FromFn.{map-range_with_len_more}

range_push : (from n : ℕ) → range_with_len from (suc n) ≡ range_with_len from n ++ (from + n) ∷ []
range_push from zero = ap (λ k. k ∷ []) (omega arith)
range_push from (suc n) =
    ap (λ ks. from ∷ ks) (range_push (from + 1) n ∙ ap (λ k. range_with_len (from + 1) n ++ k ∷ []) (omega arith))

one_more : (n : ℕ) → range_with_len 0 (n + 1) ≡ range_with_len 0 n ++ n ∷ []
one_more n =
    let next : n + 1 ≡ suc n = omega arith in
    let here : 0 + n ≡ n = omega arith in
    ap (range_with_len 0) next ∙ range_push 0 n ∙ ap (λ k. range_with_len 0 n ++ k ∷ []) here

-- the next number passes the test, or it does not
pub filter_range_more : (p : ℕ → Bool) (n : ℕ) → filter p (range_with_len 0 (n + 1)) ≡ filter p (range_with_len 0 n) ++ cond (p n) (n ∷ []) []
filter_range_more p n = ap (filter p) (one_more n) ∙ filter-append p (range_with_len 0 n) (n ∷ [])

-- what f gives of each, of one more, after what was there
pub map_more : {X : Type 0} (now old : List X) (f : ℕ → X) (n : ℕ) (x : X) → now ≡ old ++ map f (range_with_len 0 n) → x ≡ f n
    → now ++ x ∷ [] ≡ old ++ map f (range_with_len 0 (n + 1))
map_more now old f n x is here =
    ap (λ xs. xs ++ x ∷ []) is
    ∙ append_assoc old (map f (range_with_len 0 n)) (x ∷ [])
    ∙ ap (λ y. old ++ (map f (range_with_len 0 n) ++ y ∷ [])) here
    ∙ ap (λ xs. old ++ xs) (sym (map-range_with_len_more f 0 n n (omega arith)))

-- the pieces that f gives, one more, after what was there
pub pieces_more : {X : Type 0} (now old : List X) (f : ℕ → List X) (n : ℕ) → now ≡ old ++ flat_map f (range_with_len 0 n)
    → now ++ f n ≡ old ++ flat_map f (range_with_len 0 (n + 1))
pieces_more now old f n is =
    ap (λ xs. xs ++ f n) is
    ∙ append_assoc old (flat_map f (range_with_len 0 n)) (f n)
    ∙ ap (λ xs. old ++ xs) (flat_map_more f [] (range_with_len 0 n) n ∙ sym (ap (flat_map f) (one_more n)))
