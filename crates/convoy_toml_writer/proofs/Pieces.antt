-- Texts of lists, piece by piece.
use Rattle.std.proofs.Common.{◌≡◌, ◌≤◌, ℕ, List, [], ◌∷◌, ◌++◌, length, map, take, refl, ap, sym, ◌∙◌}
use Rattle.std.specs.List.{flat_map}
use Rattle.std.proofs.lemmas.List.{take_all}

flat_map_map : {A B C : Type 0} (f : B → List C) (g : A → B) (xs : List A) → flat_map f (map g xs) ≡ flat_map (λ x. f (g x)) xs
flat_map_map f g [] = refl
flat_map_map f g (x ∷ xs) = ap (λ rest. f (g x) ++ rest) (flat_map_map f g xs)

-- pieces that are appended one by one
pub in_map : {A B C : Type 0} (f : B → List C) (g : A → B) (xs : List A) (i : ℕ) (old new : List C) → length xs ≤ i → new ≡ old ++ flat_map (λ x. f (g x)) (take i xs) → new ≡ old ++ flat_map f (map g xs)
in_map f g xs i old new le e = e ∙ ap (λ t. old ++ t) (ap (flat_map (λ x. f (g x))) (take_all i xs le) ∙ sym (flat_map_map f g xs))
