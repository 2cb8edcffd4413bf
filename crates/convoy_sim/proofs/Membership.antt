-- Membership in a list, by recursion, and what it is in lists that are made of others. This file is open to the crates above.
use Rattle.std.proofs.Common.{All, ◌≡◌, ℕ, ◌+◌, ◌<◌, ◌≤◌, zero, suc, max, Bool, true, false, ◌⊎◌, inl, inr, List, [], ◌∷◌, ◌++◌, map, filter, flat_map, fold, find, Some, None, refl, sym, ap, subst, ◌∙◌, arith}
use Rattle.std.specs.List.Sorted.{IsStrictlyIncreasing}
use Rattle.std.proofs.lemmas.List.Elements.{All-head, All-tail}
use Rattle.std.specs.List.{Contains, range_with_len, list_any}
use Rattle.std.proofs.lemmas.Bool.{cases_Bool, cases_lt, cases_eq, cond-true, cond-false, or_left, or_right, or_cases, false≢true}
use Rattle.std.proofs.lemmas.Option.{none-some, same_Some}

-- the list has the element
abbrev pub IsIn : {X : Type 0} → X → List X → Type 0
IsIn x [] = ⊥
IsIn x (y ∷ ys) = (y ≡ x) ⊎ IsIn x ys

-- as contracts say it: some place of the list has the element
pub in_of_contains : {X : Type 0} (x : X) (xs : List X) → Contains xs x → IsIn x xs
in_of_contains x [] (k, l, e) = absurd (omega arith)
in_of_contains x (y ∷ ys) (zero, l, e) = inl e
in_of_contains x (y ∷ ys) (suc k, l, e) = inr (in_of_contains x ys (k, omega arith, e))

pub contains-in : {X : Type 0} (x : X) (xs : List X) → IsIn x xs → Contains xs x
contains-in x [] i = absurd i
contains-in x (y ∷ ys) (inl e) = (0, omega arith, e)
contains-in x (y ∷ ys) (inr i) = let r = contains-in x ys i in (suc r.0, omega arith, r.2)

pub in-append_left : {X : Type 0} (x : X) (xs ys : List X) → IsIn x xs → IsIn x (xs ++ ys)
in-append_left x [] ys h = absurd h
in-append_left x (y ∷ xs) ys (inl e) = inl e
in-append_left x (y ∷ xs) ys (inr h) = inr (in-append_left x xs ys h)

pub in-append_right : {X : Type 0} (x : X) (xs ys : List X) → IsIn x ys → IsIn x (xs ++ ys)
in-append_right x [] ys h = h
in-append_right x (y ∷ xs) ys h = inr (in-append_right x xs ys h)

pub in_append_cases : {X : Type 0} (x : X) (xs ys : List X) → IsIn x (xs ++ ys) → IsIn x xs ⊎ IsIn x ys
in_append_cases x [] ys h = inr h
in_append_cases x (y ∷ xs) ys (inl e) = inl (inl e)
in_append_cases x (y ∷ xs) ys (inr h) = elim (in_append_cases x xs ys h) [ inl l ↦ inl (inr l) | inr r ↦ inr r ]

pub filter_keeps : {X : Type 0} (p : X → Bool) (y : X) (ys : List X) → p y ≡ true → filter p (y ∷ ys) ≡ y ∷ filter p ys
filter_keeps p y ys e = cond-true (p y) _ _ e

pub filter_drops : {X : Type 0} (p : X → Bool) (y : X) (ys : List X) → p y ≡ false → filter p (y ∷ ys) ≡ filter p ys
filter_drops p y ys e = cond-false (p y) _ _ e

pub in-filter : {X : Type 0} (p : X → Bool) (x : X) (xs : List X) → IsIn x xs → p x ≡ true → IsIn x (filter p xs)
in-filter p x [] h t = absurd h
in-filter p x (y ∷ ys) (inl e) t =
    subst (IsIn x) (sym (filter_keeps p y ys (ap p e ∙ t))) (inl e)
in-filter p x (y ∷ ys) (inr h) t =
    let rest = in-filter p x ys h t in
    elim (cases_Bool (p y)) [
      | inl e ↦ subst (IsIn x) (sym (filter_keeps p y ys e)) (inr rest)
      | inr e ↦ subst (IsIn x) (sym (filter_drops p y ys e)) rest
    ]

pub in_of_filter : {X : Type 0} (p : X → Bool) (x : X) (xs : List X) → IsIn x (filter p xs) → IsIn x xs × (p x ≡ true)
in_of_filter p x [] h = absurd h
in_of_filter p x (y ∷ ys) h =
    let rest = in_of_filter p x ys in
    elim (cases_Bool (p y)) [
      | inl e ↦ elim (subst (IsIn x) (filter_keeps p y ys e) h) [
        | inl s ↦ (inl s, ap p (sym s) ∙ e)
        | inr r ↦ let q = rest r in (inr q.0, q.1)
      ]
      | inr e ↦ let q = rest (subst (IsIn x) (filter_drops p y ys e) h) in (inr q.0, q.1)
    ]

pub in-map : {X Y : Type 0} (f : X → Y) (x : X) (xs : List X) → IsIn x xs → IsIn (f x) (map f xs)
in-map f x [] h = absurd h
in-map f x (y ∷ ys) (inl e) = inl (ap f e)
in-map f x (y ∷ ys) (inr h) = inr (in-map f x ys h)

pub in_of_map : {X Y : Type 0} (f : X → Y) (y : Y) (xs : List X) → IsIn y (map f xs) → (x : X) × IsIn x xs × (f x ≡ y)
in_of_map f y [] h = absurd h
in_of_map f y (x ∷ xs) (inl e) = (x, inl refl, e)
in_of_map f y (x ∷ xs) (inr h) = let r = in_of_map f y xs h in (r.0, inr r.1, r.2)

pub in-flat_map : {X Y : Type 0} (f : X → List Y) (x : X) (y : Y) (xs : List X) → IsIn x xs → IsIn y (f x) → IsIn y (flat_map f xs)
in-flat_map f x y [] h t = absurd h
in-flat_map f x y (z ∷ zs) (inl e) t = in-append_left y (f z) (flat_map f zs) (subst (λ w. IsIn y (f w)) (sym e) t)
in-flat_map f x y (z ∷ zs) (inr h) t = in-append_right y (f z) (flat_map f zs) (in-flat_map f x y zs h t)

pub in_of_flat_map : {X Y : Type 0} (f : X → List Y) (y : Y) (xs : List X) → IsIn y (flat_map f xs) → (x : X) × IsIn x xs × IsIn y (f x)
in_of_flat_map f y [] h = absurd h
in_of_flat_map f y (z ∷ zs) h =
    elim (in_append_cases y (f z) (flat_map f zs) h) [
      | inl t ↦ (z, inl refl, t)
      | inr t ↦ let r = in_of_flat_map f y zs t in (r.0, inr r.1, r.2)
    ]

pub in-range : (k start n : ℕ) → start ≤ k → k < start + n → IsIn k (range_with_len start n)
in-range k start zero l h = absurd (omega arith)
in-range k start (suc n) l h = elim (cases_eq start k) [
  | inl e ↦ inl e
  | inr d ↦ inr (in-range k (start + 1) n (omega arith) (omega arith))
]

pub in_of_range : (k start n : ℕ) → IsIn k (range_with_len start n) → (start ≤ k) × (k < start + n)
in_of_range k start zero h = absurd h
in_of_range k start (suc n) (inl e) = (omega arith, omega arith)
in_of_range k start (suc n) (inr h) = let r = in_of_range k (start + 1) n h in (omega arith, omega arith)

-- a test that some element passes, and one that none does
pub list_any_in : {X : Type 0} (p : X → Bool) (x : X) (xs : List X) → IsIn x xs → p x ≡ true → list_any p xs ≡ true
list_any_in p x [] h t = absurd h
list_any_in p x (y ∷ ys) (inl e) t = or_left (p y) (list_any p ys) (ap p e ∙ t)
list_any_in p x (y ∷ ys) (inr h) t = or_right (p y) (list_any p ys) (list_any_in p x ys h t)

pub in_of_list_any : {X : Type 0} (p : X → Bool) (xs : List X) → list_any p xs ≡ true → (x : X) × IsIn x xs × (p x ≡ true)
in_of_list_any p [] h = absurd (false≢true h)
in_of_list_any p (y ∷ ys) h = elim (or_cases (p y) (list_any p ys) h) [
  | inl e ↦ (y, inl refl, e)
  | inr e ↦ let r = in_of_list_any p ys e in (r.0, inr r.1, r.2)
]

pub in_of_find : {X : Type 0} (p : X → Bool) (x : X) (xs : List X) → find p xs ≡ Some x → IsIn x xs × (p x ≡ true)
in_of_find p x [] h = absurd (none-some x h)
in_of_find p x (y ∷ ys) h = elim (cases_Bool (p y)) [
  | inl e ↦ let same : y ≡ x = same_Some y x (sym (cond-true (p y) (Some y) (find p ys) e) ∙ h) in (inl same, ap p (sym same) ∙ e)
  | inr e ↦ let r = in_of_find p x ys (sym (cond-false (p y) (Some y) (find p ys) e) ∙ h) in (inr r.0, r.1)
]

pub find-in : {X : Type 0} (p : X → Bool) (x : X) (xs : List X) → IsIn x xs → p x ≡ true → (y : X) × (find p xs ≡ Some y)
find-in p x [] h t = absurd h
find-in p x (y ∷ ys) h t = elim (cases_Bool (p y)) [
  | inl e ↦ (y, cond-true (p y) (Some y) (find p ys) e)
  | inr e ↦ elim h [
    | inl s ↦ absurd (false≢true (sym e ∙ (ap p s ∙ t)))
    | inr r ↦ let f = find-in p x ys r t in (f.0, cond-false (p y) (Some y) (find p ys) e ∙ f.1)
  ]
]

pub find_none : {X : Type 0} (p : X → Bool) (xs : List X) → ((x : X) → IsIn x xs → p x ≡ false) → find p xs ≡ None
find_none p [] h = refl
find_none p (y ∷ ys) h = cond-false (p y) (Some y) (find p ys) (h y (inl refl)) ∙ find_none p ys (λ x i. h x (inr i))

-- ---- the greatest of some numbers
fold_max_start : (a : ℕ) (xs : List ℕ) → a ≤ fold max a xs
fold_max_start a [] = omega arith
fold_max_start a (x ∷ xs) = let rest = fold_max_start (max a x) xs in omega arith

fold_max_in : (a x : ℕ) (xs : List ℕ) → IsIn x xs → x ≤ fold max a xs
fold_max_in a x [] h = absurd h
fold_max_in a x (y ∷ ys) (inl e) = let rest = fold_max_start (max a y) ys in omega arith
fold_max_in a x (y ∷ ys) (inr h) = fold_max_in (max a y) x ys h

fold_max_most : (a b : ℕ) (xs : List ℕ) → a ≤ b → ((x : ℕ) → IsIn x xs → x ≤ b) → fold max a xs ≤ b
fold_max_most a b [] l h = l
fold_max_most a b (x ∷ xs) l h =
    let first = h x (inl refl) in
    fold_max_most (max a x) b xs (omega arith) (λ y i. h y (inr i))

pub in_greatest : {X : Type 0} (f : X → ℕ) (x : X) (xs : List X) → IsIn x xs → f x ≤ fold max 0 (map f xs)
in_greatest f x xs h = fold_max_in 0 (f x) (map f xs) (in-map f x xs h)

pub greatest_most : {X : Type 0} (f : X → ℕ) (b : ℕ) (xs : List X) → ((x : X) → IsIn x xs → f x ≤ b) → fold max 0 (map f xs) ≤ b
greatest_most f b xs h = fold_max_most 0 b (map f xs) (omega arith)
    (λ y i. let r = in_of_map f y xs i in subst (λ z. z ≤ b) r.2 (h r.0 r.1))

-- the greatest over fewer elements is no greater
pub greatest_of_fewer : {X : Type 0} (f : X → ℕ) (xs ys : List X) → ((x : X) → IsIn x xs → IsIn x ys) → fold max 0 (map f xs) ≤ fold max 0 (map f ys)
greatest_of_fewer f xs ys h = greatest_most f _ xs (λ x i. in_greatest f x ys (h x i))

fold_max_is : (a : ℕ) (xs : List ℕ) → (a ≡ fold max a xs) ⊎ IsIn (fold max a xs) xs
fold_max_is a [] = inl refl
fold_max_is a (x ∷ xs) = elim (fold_max_is (max a x) xs) [
  | inl e ↦ elim (cases_lt a x) [ inl l ↦ inr (inl (omega arith)) | inr l ↦ inl (omega arith) ]
  | inr i ↦ inr (inr i)
]

-- the greatest of some numbers is one of them
pub greatest_is_one : {X : Type 0} (f : X → ℕ) (x : X) (xs : List X) → (y : X) × IsIn y (x ∷ xs) × (f y ≡ fold max 0 (map f (x ∷ xs)))
greatest_is_one f x xs = elim (fold_max_is 0 (map f (x ∷ xs))) [
  | inl e ↦ (x, inl refl, let low = in_greatest f x (x ∷ xs) (inl refl) in omega arith)
  | inr i ↦ in_of_map f _ (x ∷ xs) i
]

-- ---- lists in which no element stands twice
abbrev pub IsOnce : {X : Type 0} → List X → Type 0
IsOnce [] = Unit {0}
IsOnce (y ∷ ys) = (IsIn y ys → ⊥) × IsOnce ys

pub once-append : {X : Type 0} (xs ys : List X) → IsOnce xs → IsOnce ys → ((z : X) → IsIn z xs → IsIn z ys → ⊥) → IsOnce (xs ++ ys)
once-append [] ys o p h = p
once-append (x ∷ xs) ys o p h = (
  λ i. elim (in_append_cases x xs ys i) [ inl l ↦ o.0 l | inr r ↦ h x (inl refl) r ],
  once-append xs ys o.1 p (λ z i. h z (inr i)),
)

pub once-flat_map : {X Y : Type 0} (f : X → List Y) (xs : List X) → IsOnce xs → ((x : X) → IsIn x xs → IsOnce (f x))
    → ((x y : X) (z : Y) → IsIn z (f x) → IsIn z (f y) → x ≡ y) → IsOnce (flat_map f xs)
once-flat_map f [] o each apart = tt
once-flat_map f (x ∷ xs) o each apart =
    once-append (f x) (flat_map f xs) (each x (inl refl)) (once-flat_map f xs o.1 (λ y i. each y (inr i)) apart)
    (λ z i j. let r = in_of_flat_map f z xs j in o.0 (subst (λ w. IsIn w xs) (sym (apart x r.0 z i r.2)) r.1))

pub once-range : (start n : ℕ) → IsOnce (range_with_len start n)
once-range start zero = tt
once-range start (suc n) =
    (λ i. let r = in_of_range start (start + 1) n i in absurd (omega arith), once-range (start + 1) n)

rising_tail : (x : ℕ) (xs : List ℕ) → IsStrictlyIncreasing (x ∷ xs) → IsStrictlyIncreasing xs
rising_tail x xs h k l = let e : suc k + 1 ≡ suc (k + 1) = omega arith in rw e at (h (suc k) (omega arith))

rising_head : (x z : ℕ) (xs : List ℕ) → IsStrictlyIncreasing (x ∷ xs) → IsIn z xs → x < z
rising_head x z [] h i = absurd i
rising_head x z (y ∷ ys) h (inl e) = let first : x < y = h 0 (omega arith) in omega arith
rising_head x z (y ∷ ys) h (inr i) =
    let first : x < y = h 0 (omega arith) in
    let rest = rising_head y z ys (rising_tail x (y ∷ ys) h) i in
    omega arith

pub once-rising : (xs : List ℕ) → IsStrictlyIncreasing xs → IsOnce xs
once-rising [] h = tt
once-rising (x ∷ xs) h = (λ i. let l = rising_head x x xs h i in absurd (omega arith), once-rising xs (rising_tail x xs h))

pub all-in : {X : Type 0} (P : X → Type 0) (x : X) (xs : List X) → All P xs → IsIn x xs → P x
all-in P x [] a i = absurd i
all-in P x (y ∷ ys) a (inl e) = subst P e (All-head P y ys a)
all-in P x (y ∷ ys) a (inr i) = all-in P x ys (All-tail P y ys a) i
