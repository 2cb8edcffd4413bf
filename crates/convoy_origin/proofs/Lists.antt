-- Lists: how many elements pass a test, and lists that are made of others.
use Rattle.std.proofs.Common.{◌≡◌, ℕ, ◌+◌, ◌*◌, ◌<◌, ◌≤◌, max, Bool, true, false, not, cond, Some, position, inl, inr, List, [], ◌∷◌, ◌++◌, length, map, filter, flat_map, fold, refl, sym, ap, ap₂, subst, ◌∙◌, arith, length-append}
use Rattle.std.specs.List.{AllZip, position_or_len}
use Rattle.std.proofs.lemmas.Bool.{cases_Bool, cond-true, lt-ltb}
use Rattle.std.proofs.lemmas.List.{map-append}
use Rattle.convoy_sim.proofs.Membership.{IsIn, filter_keeps, filter_drops}

-- ---- how many pass a test
-- a test that lets through what another does lets through no fewer ..
pub filter_fewer : {X : Type 0} (p q : X → Bool) (xs : List X) → ((x : X) → p x ≡ true → q x ≡ true) → length (filter p xs) ≤ length (filter q xs)
filter_fewer p q [] h = omega arith
filter_fewer p q (x ∷ xs) h =
    let rest = filter_fewer p q xs h in
    elim (cases_Bool (p x)) [
      | inl e ↦
          let mine = ap length (filter_keeps p x xs e) in
          let other = ap length (filter_keeps q x xs (h x e)) in
          omega arith
      | inr e ↦
          let mine = ap length (filter_drops p x xs e) in
          elim (cases_Bool (q x)) [
            | inl f ↦ let other = ap length (filter_keeps q x xs f) in omega arith
            | inr f ↦ let other = ap length (filter_drops q x xs f) in omega arith
          ]
    ]

-- .. and more, if it lets through an element that the other does not
pub filter_less : {X : Type 0} (p q : X → Bool) (xs : List X) → ((x : X) → p x ≡ true → q x ≡ true)
    → (y : X) → IsIn y xs → p y ≡ false → q y ≡ true → length (filter p xs) < length (filter q xs)
filter_less p q [] h y i e f = absurd i
filter_less p q (x ∷ xs) h y (inl same) e f =
    let rest = filter_fewer p q xs h in
    let mine = ap length (filter_drops p x xs (ap p same ∙ e)) in
    let other = ap length (filter_keeps q x xs (ap q same ∙ f)) in
    omega arith
filter_less p q (x ∷ xs) h y (inr i) e f =
    let rest = filter_less p q xs h y i e f in
    elim (cases_Bool (p x)) [
      | inl a ↦
          let mine = ap length (filter_keeps p x xs a) in
          let other = ap length (filter_keeps q x xs (h x a)) in
          omega arith
      | inr a ↦
          let mine = ap length (filter_drops p x xs a) in
          elim (cases_Bool (q x)) [
            | inl b ↦ let other = ap length (filter_keeps q x xs b) in omega arith
            | inr b ↦ let other = ap length (filter_drops q x xs b) in omega arith
          ]
    ]

filter_all : {X : Type 0} (xs : List X) → filter (λ x. true) xs ≡ xs
filter_all [] = refl
filter_all (x ∷ xs) = ap (λ l. x ∷ l) (filter_all xs)

pub filter_not_all : {X : Type 0} (p : X → Bool) (xs : List X) (y : X) → IsIn y xs → p y ≡ false → length (filter p xs) < length xs
filter_not_all p xs y i e =
    let less = filter_less p (λ x. true) xs (λ x t. refl) y i e refl in
    let all = ap length (filter_all xs) in
    omega arith

-- tests that agree let through the same
pub filter_same : {X : Type 0} (p q : X → Bool) (xs : List X) → ((x : X) → p x ≡ q x) → filter p xs ≡ filter q xs
filter_same p q [] h = refl
filter_same p q (x ∷ xs) h =
    ap (λ b. cond b (x ∷ filter p xs) (filter p xs)) (h x) ∙ ap (λ l. cond (q x) (x ∷ l) l) (filter_same p q xs h)

-- ---- lists made of others
pub flat_map_few : {X Y : Type 0} (f : X → List Y) (most : ℕ) (xs : List X) → ((x : X) → IsIn x xs → length (f x) ≤ most)
    → length (flat_map f xs) ≤ most * length xs
flat_map_few f most [] h = omega arith
flat_map_few f most (x ∷ xs) h =
    let first = h x (inl refl) in
    let rest = flat_map_few f most xs (λ y i. h y (inr i)) in
    let long = length-append (f x) (flat_map f xs) in
    let next : most * (length xs + 1) ≡ most * length xs + most = grind arith in
    omega arith

pub flat_map_made : {A X Y : Type 0} (h : X → Y) (f : A → List Y) (g : A → List X) (zs : List A) → ((a : A) → IsIn a zs → f a ≡ map h (g a))
    → flat_map f zs ≡ map h (flat_map g zs)
flat_map_made h f g [] made = refl
flat_map_made h f g (a ∷ zs) made =
    ap₂ ◌++◌ (made a (inl refl)) (flat_map_made h f g zs (λ b i. made b (inr i))) ∙ sym (map-append h (g a) (flat_map g zs))

pub map_made : {A X Y : Type 0} (h : X → Y) (f : A → Y) (g : A → X) (zs : List A) → ((a : A) → IsIn a zs → f a ≡ h (g a))
    → map f zs ≡ map h (map g zs)
map_made h f g [] made = refl
map_made h f g (a ∷ zs) made = ap₂ (λ y ys. y ∷ ys) (made a (inl refl)) (map_made h f g zs (λ b i. made b (inr i)))

-- what holds of two lists made of one, holds of what is made of each element
pub zip_at : {A X Y : Type 0} (R : X → Y → Type 0) (f : A → X) (g : A → Y) (zs : List A) → AllZip R (map f zs) (map g zs) → (a : A) → IsIn a zs → R (f a) (g a)
zip_at R f g [] h a i = absurd i
zip_at R f g (b ∷ zs) h a (inl same) = subst (λ c. R (f c) (g c)) same h.0
zip_at R f g (b ∷ zs) h a (inr i) = zip_at R f g zs h.1 a i

pub all_zip_made : {A X Y : Type 0} (R : X → Y → Type 0) (f : A → X) (g : A → Y) (zs : List A) → ((a : A) → IsIn a zs → R (f a) (g a))
    → AllZip R (map f zs) (map g zs)
all_zip_made R f g [] h = tt
all_zip_made R f g (a ∷ zs) h = (h a (inl refl), all_zip_made R f g zs (λ b i. h b (inr i)))

-- ---- the place of an element
place_within : {X : Type 0} (p : X → Bool) (xs : List X) (x : X) → IsIn x xs → p x ≡ true → position_or_len p xs < length xs
place_within p [] x i e = absurd i
place_within p (y ∷ ys) x i e = elim (cases_Bool (p y)) [
  | inl here ↦ let first : position_or_len p (y ∷ ys) ≡ 0 = ap (λ b. cond (not b) (1 + position_or_len p ys) 0) here in omega arith
  | inr later ↦
      let next : position_or_len p (y ∷ ys) ≡ 1 + position_or_len p ys = ap (λ b. cond (not b) (1 + position_or_len p ys) 0) later in
      elim i [
        | inl same ↦ absurd (let no : true ≡ false = sym e ∙ ap p (sym same) ∙ later in cc)
        | inr j ↦ let rest = place_within p ys x j e in omega arith
      ]
]

pub position_in : {X : Type 0} (p : X → Bool) (xs : List X) (x : X) → IsIn x xs → p x ≡ true → position p xs ≡ Some (position_or_len p xs)
position_in p xs x i e = cond-true _ _ _ (lt-ltb (position_or_len p xs) (length xs) (place_within p xs x i e))

-- ---- the greatest of some numbers, if it is the first
greatest_from : (c : ℕ) (xs : List ℕ) → ((x : ℕ) → IsIn x xs → x ≤ c) → fold max c xs ≡ c
greatest_from c [] h = refl
greatest_from c (x ∷ xs) h =
    let first = h x (inl refl) in
    let same : max c x ≡ c = omega arith in
    ap (λ n. fold max n xs) same ∙ greatest_from c xs (λ y i. h y (inr i))

pub greatest_first : (c : ℕ) (xs : List ℕ) → ((x : ℕ) → IsIn x xs → x ≤ c) → fold max 0 (c ∷ xs) ≡ c
greatest_first c xs h =
    let same : max 0 c ≡ c = omega arith in
    ap (λ n. fold max n xs) same ∙ greatest_from c xs h
