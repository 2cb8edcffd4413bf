-- The lines of packets, one after the other.
use Rattle.std.proofs.Common.{◌≡◌, ℕ, ◌+◌, ◌≤◌, List, ◌∷◌, ◌++◌, Some, length, drop, map, sym, ap, ◌∙◌, append_assoc}
use Rattle.std.specs.List.{enumerate_from, flat_map, slice_get}
use Rattle.std.specs.Option.{option_map}
use Rattle.std.proofs.lemmas.List.{append-nil, drop_all, drop_more}
use Rattle.std.proofs.lemmas.Option.{get_or_from_slice_get, slice_get-map, slice_get_within, same_Some}

-- one more packet
pub one_more : {X : Type 0} (f : ℕ × X → List ℕ) (text all line : List ℕ) (xs : List X) (i : ℕ) (x : X)
    → slice_get xs i ≡ Some x
    → text ++ flat_map f (enumerate_from i (drop i xs)) ≡ all
    → line ≡ f (i, x)
    → (text ++ line) ++ flat_map f (enumerate_from (i + 1) (drop (i + 1) xs)) ≡ all
one_more f text all line xs i x at whole is =
    let rest : drop i xs ≡ x ∷ drop (i + 1) xs =
    drop_more xs i x (slice_get_within xs i x at) ∙ ap (λ y. y ∷ drop (i + 1) xs) (get_or_from_slice_get xs i x x at) in
    rw (is, append_assoc) (rw rest at whole)

-- none is left
pub none_left : {X : Type 0} (f : ℕ × X → List ℕ) (text all : List ℕ) (xs : List X) (i : ℕ)
    → length xs ≤ i
    → text ++ flat_map f (enumerate_from i (drop i xs)) ≡ all
    → text ≡ all
none_left f text all xs i past whole =
    let gone = drop_all i xs past in
    sym (append-nil text) ∙ rw gone at whole

-- the range at a packet's place is the packet's
pub range_at : {X : Type 0} (f : X → ℕ × ℕ) (xs : List X) (ranges : List (ℕ × ℕ)) (i : ℕ) (x : X) (range : ℕ × ℕ)
    → ranges ≡ map f xs → slice_get xs i ≡ Some x → slice_get ranges i ≡ Some range → range ≡ f x
range_at f xs ranges i x range same at is =
    same_Some range (f x) (sym is ∙ ap (λ rs. slice_get rs i) same ∙ slice_get-map f xs i ∙ ap (option_map f) at)
