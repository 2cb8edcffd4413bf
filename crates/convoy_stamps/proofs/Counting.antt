-- Counting: how many elements it takes to have so many numbers, and how far so many different numbers go.
use Rattle.std.proofs.Common.{◌≡◌, ◌≢◌, ℕ, ◌+◌, ◌<◌, ◌≤◌, zero, suc, Bool, false, not, ◌==◌, inl, inr, List, [], ◌∷◌, length, filter, refl, sym, ap, subst, ◌∙◌, arith}
use Rattle.std.proofs.lemmas.Bool.{cases_Bool, cases_eq, both_ways, eq-eqb, eqb-true, not-true, not_from_false, false_from_ne_true}
use Rattle.std.proofs.lemmas.List.Filters.{length-filter_both}
use Rattle.convoy_sim.proofs.Membership.{IsIn, IsOnce, filter_keeps, filter_drops, in-filter, in_of_filter}

-- a part of a list in which no element stands twice is such a list
pub once-filter : {X : Type 0} (p : X → Bool) (xs : List X) → IsOnce xs → IsOnce (filter p xs)
once-filter p [] o = tt
once-filter p (x ∷ xs) o =
    let rest = once-filter p xs o.1 in
    elim (cases_Bool (p x)) [
      | inl e ↦ subst IsOnce (sym (filter_keeps p x xs e)) ((λ i. o.0 (in_of_filter p x xs i).0), rest)
      | inr e ↦ subst IsOnce (sym (filter_drops p x xs e)) rest
    ]

-- a list with an element is not empty
pub length-in : {X : Type 0} (x : X) (xs : List X) → IsIn x xs → 0 < length xs
length-in x [] i = absurd i
length-in x (y ∷ ys) i = omega arith

empty_filter : {X : Type 0} (p : X → Bool) (xs : List X) → ((x : X) → IsIn x xs → p x ≡ false) → filter p xs ≡ []
empty_filter p [] h = refl
empty_filter p (x ∷ xs) h = filter_drops p x xs (h x (inl refl)) ∙ empty_filter p xs (λ y i. h y (inr i))

module _ {X : Type 0} (f : X → ℕ) where
  -- the elements of one number, and the others
  of_number : ℕ → X → Bool
  of_number w x = f x == w

  others : ℕ → List X → List X
  others w xs = filter (λ x. not (f x == w)) xs

  parted : (w : ℕ) (xs : List X) → length (filter (of_number w) xs) + length (others w xs) ≡ length xs
  unfolding of_number others
  parted w xs = length-filter_both (λ x. f x == w) (λ x. not (f x == w)) (λ x. refl) xs

  in-others : (w : ℕ) (x : X) (xs : List X) → IsIn x xs → f x ≢ w → IsIn x (others w xs)
  unfolding others
  in-others w x xs i d = in-filter (λ y. not (f y == w)) x xs i (not_from_false (f x == w) (false_from_ne_true (f x == w) (λ t. d (eqb-true (f x) w t))))

  in_of_others : (w : ℕ) (x : X) (xs : List X) → IsIn x (others w xs) → IsIn x xs × (f x ≢ w)
  unfolding others
  in_of_others w x xs i =
      let r = in_of_filter (λ y. not (f y == w)) x xs i in
      (r.0, λ e. both_ways (f x == w) (not-true (f x == w) r.1) (eq-eqb (f x) w e))

  -- it takes as many elements as there are numbers
  pub at_least : (k low : ℕ) (xs : List X) → ((u : ℕ) → low < u → u ≤ low + k → (x : X) × IsIn x xs × (f x ≡ u)) → k ≤ length xs
  unfolding of_number
  at_least zero low xs h = omega arith
  at_least (suc k) low xs h =
      let w : ℕ = low + suc k in
      let last = h w (omega arith) (omega arith) in
      let some = length-in last.0 (filter (of_number w) xs) (in-filter (of_number w) last.0 xs last.1 (eq-eqb (f last.0) w last.2)) in
      let rest = at_least k low (others w xs) (λ u l m.
      let r = h u l (omega arith) in
      (r.0, in-others w r.0 xs r.1 (λ e. let same : u ≡ w = sym r.2 ∙ e in absurd (omega arith)), r.2)) in
      omega (arith, parted w xs)

  -- no two elements have one number
  abbrev pub AreDifferent : List X → Type 0
  AreDifferent xs = (x y : X) → IsIn x xs → IsIn y xs → f x ≡ f y → x ≡ y

  one_of_number : (w : ℕ) (xs : List X) → IsOnce xs → AreDifferent xs → length (filter (of_number w) xs) ≤ 1
  unfolding of_number
  one_of_number w [] o d = omega arith
  one_of_number w (x ∷ xs) o d =
      let rest = one_of_number w xs o.1 (λ y z i j. d y z (inr i) (inr j)) in
      elim (cases_Bool (f x == w)) [
        | inl e ↦
            let none : filter (of_number w) xs ≡ [] =
            empty_filter (of_number w) xs (λ y i. false_from_ne_true (f y == w) (λ t.
            o.0 (subst (λ z. IsIn z xs) (sym (d x y (inl refl) (inr i) (eqb-true (f x) w e ∙ sym (eqb-true (f y) w t)))) i))) in
            let all : filter (of_number w) (x ∷ xs) ≡ x ∷ [] = filter_keeps (of_number w) x xs e ∙ ap (λ l. x ∷ l) none in
            omega (arith, ap length all)
        | inr e ↦ omega (arith, ap length (filter_drops (of_number w) x xs e))
      ]

  others_once : (w : ℕ) (xs : List X) → IsOnce xs → IsOnce (others w xs)
  unfolding others
  others_once w xs o = once-filter (λ x. not (f x == w)) xs o

  -- different numbers between two bounds are no more than lie there
  pub at_most : (k low : ℕ) (xs : List X) → IsOnce xs → AreDifferent xs → ((x : X) → IsIn x xs → (low < f x) × (f x ≤ low + k)) → length xs ≤ k
  at_most zero low [] o d h = omega arith
  at_most zero low (x ∷ xs) o d h = let r = h x (inl refl) in absurd (omega (arith, r.0, r.1))
  at_most (suc k) low xs o d h =
      let w : ℕ = low + suc k in
      let one = one_of_number w xs o d in
      let rest = at_most k low (others w xs) (others_once w xs o)
      (λ x y i j. d x y (in_of_others w x xs i).0 (in_of_others w y xs j).0)
      (λ x i. let r = in_of_others w x xs i in let l = h x r.0 in (l.0, below (f x) w (low + k) l.1 r.1 (omega arith))) in
      omega (arith, parted w xs) where
        below : (a b c : ℕ) → a ≤ b → a ≢ b → b ≡ suc c → a ≤ c
        below a b c l d e = elim (cases_eq a b) [ inl s ↦ absurd (d s) | inr _ ↦ omega arith ]
