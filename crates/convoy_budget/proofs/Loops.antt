-- Loops over the first numbers, one number more at a time.
use Rattle.std.proofs.Common.{◌≡◌, ℕ, ◌+◌, Bool, true, false, ◌||◌, List, [], ◌∷◌, ◌++◌, take, get_or, flat_map, Some, refl, sym, ap, ◌∙◌, append_assoc}
use Rattle.std.specs.List.{list_any, range_with_len, slice_get}
use Rattle.std.proofs.lemmas.List.{take_more}
use Rattle.std.proofs.lemmas.Option.{get_or_from_slice_get, slice_get_within}
use Rattle.std.proofs.lemmas.List.Folds.{list_any-append}
use Rattle.convoy_stamps.proofs.Loops.{flat_map_range_more}

-- the pieces that f gives, one more, after those that were there
pub pieces_more : {X : Type 0} (now old : List X) (f : ℕ → List X) (n : ℕ) → now ≡ old ++ flat_map f (range_with_len 0 n)
    → now ++ f n ≡ old ++ flat_map f (range_with_len 0 (n + 1))
pieces_more now old f n is =
    ap (λ xs. xs ++ f n) is ∙ append_assoc old (flat_map f (range_with_len 0 n)) (f n) ∙ ap (λ xs. old ++ xs) (sym (flat_map_range_more f n))

one : {X : Type 0} (p : X → Bool) (x : X) → list_any p (x ∷ []) ≡ p x
one p x = by_test (p x) where
  by_test : (b : Bool) → (b || false) ≡ b
  by_test true = refl
  by_test false = refl

-- whether one passes, with one more
pub any_more : {X : Type 0} (p : X → Bool) (xs : List X) (i : ℕ) (x : X) (b : Bool) →
    slice_get xs i ≡ Some x → b ≡ list_any p (take i xs) → (b || p x) ≡ list_any p (take (i + 1) xs)
any_more p xs i x b at is =
    ap (λ (c : Bool). c || p x) is
    ∙ ap (λ (c : Bool). list_any p (take i xs) || c) (sym (one p x) ∙ ap (λ y. list_any p (y ∷ [])) (sym (get_or_from_slice_get xs i x x at)))
    ∙ sym (list_any-append p (take i xs) (get_or xs i x ∷ []))
    ∙ ap (list_any p) (sym (take_more xs i x (slice_get_within xs i x at)))
