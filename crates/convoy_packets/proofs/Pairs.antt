-- Lists in which a relation holds of each element and each later one.
use Rattle.std.proofs.Common.{◌≡◌, ℕ, suc, ◌+◌, ◌<◌, List, [], ◌∷◌, ◌++◌, map, get_or, arith, sym, ap, ◌∙◌}
use Rattle.std.specs.List.{All, AllPairs, flat_map, enumerate_from}
use Rattle.std.proofs.lemmas.List.Elements.{All-nil, All-cons, All-head, All-tail, All-append, All-map}
use Rattle.std.proofs.lemmas.List.Kept.{AllPairs-cons}
use Rattle.convoy_packets.proofs.Lists.{All-flat_map}

pub AllPairs-nil : {X : Type 0} (R : X → X → Type 0) → AllPairs R []
AllPairs-nil R i j d h l = absurd (omega arith)

pub AllPairs-head : {X : Type 0} (R : X → X → Type 0) (x : X) (xs : List X) → AllPairs R (x ∷ xs) → All (R x) xs
AllPairs-head R x xs h k d l = h 0 (suc k) d (omega arith) (omega arith)

pub AllPairs-tail : {X : Type 0} (R : X → X → Type 0) (x : X) (xs : List X) → AllPairs R (x ∷ xs) → AllPairs R xs
AllPairs-tail R x xs h i j d a b = h (suc i) (suc j) d (omega arith) (omega arith)

pub AllPairs-append : {X : Type 0} (R : X → X → Type 0) (xs ys : List X) → AllPairs R xs → AllPairs R ys → All (λ x. All (R x) ys) xs → AllPairs R (xs ++ ys)
AllPairs-append R [] ys a b c = b
AllPairs-append R (x ∷ xs) ys a b c =
    AllPairs-cons R x (xs ++ ys)
    (All-append (R x) xs ys (AllPairs-head R x xs a) (All-head (λ y. All (R y) ys) x xs c))
    (AllPairs-append R xs ys (AllPairs-tail R x xs a) b (All-tail (λ y. All (R y) ys) x xs c))

pub AllPairs-map : {X Y : Type 0} (R : Y → Y → Type 0) (f : X → Y) (xs : List X) → AllPairs (λ x y. R (f x) (f y)) xs → AllPairs R (map f xs)
AllPairs-map R f [] h = AllPairs-nil R
AllPairs-map R f (x ∷ xs) h =
    AllPairs-cons R (f x) (map f xs)
    (All-map (R (f x)) f xs (AllPairs-head (λ y z. R (f y) (f z)) x xs h))
    (AllPairs-map R f xs (AllPairs-tail (λ y z. R (f y) (f z)) x xs h))

pub AllPairs-weaker : {X : Type 0} (R S : X → X → Type 0) (xs : List X) → ((x y : X) → R x y → S x y) → AllPairs R xs → AllPairs S xs
AllPairs-weaker R S xs f h i j d a b = f (get_or xs i d) (get_or xs j d) (h i j d a b)

-- joined parts differ if each part's elements differ, and the elements of a part carry the part's key
pub AllPairs-flat_map : {X A : Type 0} (key : X → ℕ) (tag : A → ℕ) (f : X → List A) (xs : List X) → ((x : X) → All (λ a. tag a ≡ key x) (f x)) → All (λ x. AllPairs (λ a b. a ≡ b → ⊥) (f x)) xs → AllPairs (λ x y. key x ≡ key y → ⊥) xs → AllPairs (λ a b. a ≡ b → ⊥) (flat_map f xs)
AllPairs-flat_map key tag f [] tags each keys = AllPairs-nil (λ a b. a ≡ b → ⊥)
AllPairs-flat_map key tag f (x ∷ xs) tags each keys =
    AllPairs-append (λ a b. a ≡ b → ⊥) (f x) (flat_map f xs)
    (All-head (λ y. AllPairs (λ a b. a ≡ b → ⊥) (f y)) x xs each)
    (AllPairs-flat_map key tag f xs tags
    (All-tail (λ y. AllPairs (λ a b. a ≡ b → ⊥) (f y)) x xs each)
    (AllPairs-tail (λ y z. key y ≡ key z → ⊥) x xs keys))
    (λ k d l. All-flat_map (λ b. get_or (f x) k d ≡ b → ⊥) f xs
    (λ i c h j e g same. AllPairs-head (λ y z. key y ≡ key z → ⊥) x xs keys i c h
    (sym (tags x k d l) ∙ ap tag same ∙ tags (get_or xs i c) j e g)))

pub numbers_rise : {X : Type 0} (n : ℕ) (xs : List X) → AllPairs (λ x y. x.0 < y.0) (enumerate_from n xs)
numbers_rise n [] = AllPairs-nil (λ x y. x.0 < y.0)
numbers_rise n (x ∷ xs) =
    AllPairs-cons (λ x y. x.0 < y.0) (n, x) (enumerate_from (n + 1) xs) (above n (n + 1) xs (omega arith)) (numbers_rise (n + 1) xs) where
      above : {X : Type 0} (m n : ℕ) (xs : List X) → m < n → All (λ y. m < y.0) (enumerate_from n xs)
      above m n [] h = All-nil (λ y. m < y.0)
      above m n (x ∷ xs) h = All-cons (λ y. m < y.0) (n, x) (enumerate_from (n + 1) xs) h (above m (n + 1) xs (omega arith))
