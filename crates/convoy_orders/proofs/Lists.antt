-- The greatest of some numbers, lists that are made of others, and the first place that passes a test.
use Rattle.std.proofs.Common.{◌≡◌, ℕ, max, Bool, true, Some, position, inl, inr, List, [], ◌∷◌, length, map, fold, refl, sym, ap₂, ◌∙◌, arith}
use Rattle.std.specs.List.{AllZip, position_or_len}
use Rattle.std.proofs.lemmas.Bool.{cond-true, lt-ltb}
use Rattle.std.proofs.lemmas.List.Folds.{find_at}
use Rattle.std.proofs.lemmas.Option.{slice_get_within}
use Rattle.convoy_sim.proofs.Membership.{IsIn, find-in}

greatest_from : (a : ℕ) (xs : List ℕ) → fold max a xs ≡ max a (fold max 0 xs)
greatest_from a [] = omega arith
greatest_from a (x ∷ xs) =
    let mine = greatest_from (max a x) xs in
    let other = greatest_from (max 0 x) xs in
    omega arith

pub greatest_of_more : (x : ℕ) (xs : List ℕ) → fold max 0 (x ∷ xs) ≡ max x (fold max 0 xs)
greatest_of_more x xs = let all = greatest_from (max 0 x) xs in omega arith

-- what holds of what is made of each element, holds of two lists made of one
pub all_zip_made : {A X Y : Type 0} (R : X → Y → Type 0) (f : A → X) (g : A → Y) (zs : List A) → ((a : A) → IsIn a zs → R (f a) (g a))
    → AllZip R (map f zs) (map g zs)
all_zip_made R f g [] h = tt
all_zip_made R f g (a ∷ zs) h = (h a (inl refl), all_zip_made R f g zs (λ b i. h b (inr i)))

-- an element that passes is found
pub position_in : {X : Type 0} (p : X → Bool) (x : X) (xs : List X) → IsIn x xs → p x ≡ true → position p xs ≡ Some (position_or_len p xs)
position_in p x xs i e =
    let found = find-in p x xs i e in
    let here = slice_get_within xs (position_or_len p xs) found.0 (sym (find_at p xs) ∙ found.1) in
    cond-true _ _ _ (lt-ltb (position_or_len p xs) (length xs) here)

-- what is made of each element alike
pub map_same : {X Y : Type 0} (f g : X → Y) (xs : List X) → ((x : X) → f x ≡ g x) → map f xs ≡ map g xs
map_same f g [] h = refl
map_same f g (x ∷ xs) h = ap₂ (λ y ys. y ∷ ys) (h x) (map_same f g xs h)
