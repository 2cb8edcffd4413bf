-- A list made of those elements of another that pass a test, with their places, one after the other.
use Rattle.std.proofs.Common.{◌≡◌, ℕ, ◌+◌, ◌≤◌, Bool, true, false, cond, List, [], ◌∷◌, ◌++◌, Some, length, drop, map, sym, ap, ◌∙◌, append_assoc}
use Rattle.std.specs.List.{enumerate_from, filter, slice_get}
use Rattle.std.proofs.lemmas.List.{append-nil, drop_all, drop_more}
use Rattle.std.proofs.lemmas.Option.{get_or_from_slice_get, slice_get_within}

-- the elements from a place on begin with the one there
from_here : {X : Type 0} (xs : List X) (i : ℕ) (x : X) → slice_get xs i ≡ Some x → drop i xs ≡ x ∷ drop (i + 1) xs
from_here xs i x at = drop_more xs i x (slice_get_within xs i x at) ∙ ap (λ y. y ∷ drop (i + 1) xs) (get_or_from_slice_get xs i x x at)

-- one more element that passes
pub one_more : {X A : Type 0} (p : ℕ × X → Bool) (f : ℕ × X → A) (made all : List A) (xs : List X) (i : ℕ) (x : X)
    → slice_get xs i ≡ Some x → p (i, x) ≡ true
    → made ++ map f (filter p (enumerate_from i (drop i xs))) ≡ all
    → (made ++ f (i, x) ∷ []) ++ map f (filter p (enumerate_from (i + 1) (drop (i + 1) xs))) ≡ all
one_more p f made all xs i x at passes whole =
    let rest = enumerate_from (i + 1) (drop (i + 1) xs) in
    let told : made ++ map f (cond (p (i, x)) ((i, x) ∷ filter p rest) (filter p rest)) ≡ all = rw (from_here xs i x at) at whole in
    rw append_assoc (rw passes at told)

-- one more element that does not pass
pub one_less : {X A : Type 0} (p : ℕ × X → Bool) (f : ℕ × X → A) (made all : List A) (xs : List X) (i : ℕ) (x : X)
    → slice_get xs i ≡ Some x → p (i, x) ≡ false
    → made ++ map f (filter p (enumerate_from i (drop i xs))) ≡ all
    → made ++ map f (filter p (enumerate_from (i + 1) (drop (i + 1) xs))) ≡ all
one_less p f made all xs i x at fails whole =
    let rest = enumerate_from (i + 1) (drop (i + 1) xs) in
    let told : made ++ map f (cond (p (i, x)) ((i, x) ∷ filter p rest) (filter p rest)) ≡ all = rw (from_here xs i x at) at whole in
    rw fails at told

-- none is left
pub none_left : {X A : Type 0} (p : ℕ × X → Bool) (f : ℕ × X → A) (made all : List A) (xs : List X) (i : ℕ)
    → length xs ≤ i
    → made ++ map f (filter p (enumerate_from i (drop i xs))) ≡ all
    → made ≡ all
none_left p f made all xs i past whole =
    let gone = drop_all i xs past in
    sym (append-nil made) ∙ rw gone at whole
