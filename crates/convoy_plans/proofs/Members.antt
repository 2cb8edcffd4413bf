-- What stands in a list, and what is made of it.
use Rattle.std.proofs.Common.{◌≡◌, ◌<◌, ◌⊎◌, ℕ, ◌+◌, zero, suc, Bool, true, false, List, [], ◌∷◌, ◌++◌, map, filter, flat_map, length, get_or, cond, All, refl, ap, subst, ◌∙◌, inl, inr, arith}
use Rattle.std.specs.List.{list_all, list_any, range_with_len}
use Rattle.std.proofs.lemmas.Bool.{and_parts, or_right}

-- it is one of these
abbrev pub In : {X : Type 0} → X → List X → Type 0
In x [] = ⊥
In x (y ∷ ys) = (x ≡ y) ⊎ In x ys

pub in_first : {X : Type 0} (x : X) (xs ys : List X) → In x xs → In x (xs ++ ys)
in_first x [] ys h = absurd h
in_first x (y ∷ xs) ys (inl is) = inl is
in_first x (y ∷ xs) ys (inr h) = inr (in_first x xs ys h)

pub in_then : {X : Type 0} (x : X) (xs ys : List X) → In x ys → In x (xs ++ ys)
in_then x [] ys h = h
in_then x (y ∷ xs) ys h = inr (in_then x xs ys h)

pub in_map : {X Y : Type 0} (f : X → Y) (x : X) (xs : List X) → In x xs → In (f x) (map f xs)
in_map f x [] h = absurd h
in_map f x (y ∷ xs) (inl is) = inl (ap f is)
in_map f x (y ∷ xs) (inr h) = inr (in_map f x xs h)

pub in_flat_map : {X Y : Type 0} (f : X → List Y) (x : X) (y : Y) (xs : List X) → In x xs → In y (f x) → In y (flat_map f xs)
in_flat_map f x y [] h here = absurd h
in_flat_map f x y (z ∷ xs) (inl is) here =
    let there : In y (f z) = rw (← is) here in
    in_first y (f z) (flat_map f xs) there
in_flat_map f x y (z ∷ xs) (inr h) here = in_then y (f z) (flat_map f xs) (in_flat_map f x y xs h here)

in_range_from : (from n k : ℕ) → k < n → In (from + k) (range_with_len from n)
in_range_from from zero k h = absurd (omega arith)
in_range_from from (suc n) zero h = inl (omega arith)
in_range_from from (suc n) (suc k) h =
    let here : (from + 1) + k ≡ from + suc k = omega arith in
    inr (subst (λ x. In x (range_with_len (from + 1) n)) here (in_range_from (from + 1) n k (omega arith)))

pub in_range : (n k : ℕ) → k < n → In k (range_with_len 0 n)
in_range n k h =
    let here : 0 + k ≡ k = omega arith in
    rw here at (in_range_from 0 n k h)

pub in_at : {X : Type 0} (xs : List X) (i : ℕ) (d : X) → i < length xs → In (get_or xs i d) xs
in_at [] i d h = absurd (omega arith)
in_at (x ∷ xs) zero d h = inl refl
in_at (x ∷ xs) (suc i) d h = inr (in_at xs i d (omega arith))

pub in_map_back : {X Y : Type 0} (f : X → Y) (y : Y) (xs : List X) → In y (map f xs) → (x : X) × In x xs × (y ≡ f x)
in_map_back f y [] h = absurd h
in_map_back f y (x ∷ xs) (inl is) = (x, inl refl, is)
in_map_back f y (x ∷ xs) (inr h) =
    let r = in_map_back f y xs h in
    (r.0, inr r.1, r.2)

pub in_either : {X : Type 0} (x : X) (xs ys : List X) → In x (xs ++ ys) → In x xs ⊎ In x ys
in_either x [] ys h = inr h
in_either x (y ∷ xs) ys (inl is) = inl (inl is)
in_either x (y ∷ xs) ys (inr h) = by_rest (in_either x xs ys h) where
  by_rest : In x xs ⊎ In x ys → In x (y ∷ xs) ⊎ In x ys
  by_rest (inl here) = inl (inr here)
  by_rest (inr there) = inr there

pub in_flat_map_back : {X Y : Type 0} (f : X → List Y) (y : Y) (xs : List X) → In y (flat_map f xs) → (x : X) × In x xs × In y (f x)
in_flat_map_back f y [] h = absurd h
in_flat_map_back {X} f y (x ∷ xs) h = by_part (in_either y (f x) (flat_map f xs) h) (in_flat_map_back f y xs) where
  by_part : In y (f x) ⊎ In y (flat_map f xs) → (In y (flat_map f xs) → (z : X) × In z xs × In y (f z)) → (z : X) × In z (x ∷ xs) × In y (f z)
  by_part (inl here) more = (x, inl refl, here)
  by_part (inr there) more =
      let r = more there in
      (r.0, inr r.1, r.2)

pub all_of_in : {X : Type 0} (P : X → Type 0) (xs : List X) → ((x : X) → In x xs → P x) → All P xs
all_of_in P xs h k d within = h (get_or xs k d) (in_at xs k d within)

pub any_in : {X : Type 0} (p : X → Bool) (x : X) (xs : List X) → In x xs → p x ≡ true → list_any p xs ≡ true
any_in p x [] h e = absurd h
any_in p x (y ∷ xs) (inl is) e =
    let here : p y ≡ true = rw (← is) e in
    rw here refl
any_in p x (y ∷ xs) (inr h) e = or_right (p y) (list_any p xs) (any_in p x xs h e)

pub all_in : {X : Type 0} (p : X → Bool) (x : X) (xs : List X) → In x xs → list_all p xs ≡ true → p x ≡ true
all_in p x [] h e = absurd h
all_in p x (y ∷ xs) (inl is) e = rw is ((and_parts (p y) (list_all p xs) e).0)
all_in p x (y ∷ xs) (inr h) e = all_in p x xs h ((and_parts (p y) (list_all p xs) e).1)

pub of_filter : {X : Type 0} (p : X → Bool) (x : X) (xs : List X) → In x (filter p xs) → p x ≡ true
of_filter p x [] h = absurd h
of_filter p x (y ∷ xs) h = by_test (p y) refl h (of_filter p x xs) where
  by_test : (b : Bool) → p y ≡ b → In x (cond b (y ∷ filter p xs) (filter p xs)) → (In x (filter p xs) → p x ≡ true) → p x ≡ true
  by_test true passes (inl is) more = ap p is ∙ passes
  by_test true passes (inr there) more = more there
  by_test false fails there more = more there

pub in_filter : {X : Type 0} (p : X → Bool) (x : X) (xs : List X) → In x xs → p x ≡ true → In x (filter p xs)
in_filter p x [] h e = absurd h
in_filter p x (y ∷ xs) (inl is) e =
    let here : p y ≡ true = rw (← is) e in
    rw here (inl is)
in_filter p x (y ∷ xs) (inr h) e = by_test (p y) (in_filter p x xs h e) where
  by_test : (b : Bool) → In x (filter p xs) → In x (cond b (y ∷ filter p xs) (filter p xs))
  by_test true rest = inr rest
  by_test false rest = rest
