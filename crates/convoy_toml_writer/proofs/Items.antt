-- Items of lists of any type.
use Rattle.std.proofs.Common.{◌≡◌, List, [], ◌∷◌, map, refl}
use Rattle.std.specs.List.{AllByRecursion}

-- what follows from a fact of each item holds of each item
pub each : {A : Type 0} {P Q : A → Type 0} (xs : List A) → ((x : A) → P x → Q x) → AllByRecursion P xs → AllByRecursion Q xs
each [] follows all = tt
each (x ∷ xs) follows all = (follows x all.0, each xs follows all.1)

pub map_same : {A B : Type 0} (f g : A → B) (xs : List A) → ((x : A) → f x ≡ g x) → map f xs ≡ map g xs
map_same f g [] same = refl
map_same f g (x ∷ xs) same = rw (same x, map_same f g xs same) refl
