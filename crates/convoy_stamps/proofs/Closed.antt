-- What is reached from an element is closed, and the least that is.
use Rattle.std.proofs.Common.{◌≡◌, ℕ, ◌+◌, ◌<◌, ◌≤◌, zero, suc, Bool, true, ◌⊎◌, inl, inr, List, [], ◌∷◌, length, filter, refl, sym, ap, subst, ◌∙◌, arith}
use Rattle.std.proofs.lemmas.Bool.{cases_Bool, both_ways}
use Rattle.convoy_sim.proofs.Membership.{IsIn, filter_keeps, filter_drops, in-filter, in_of_filter, list_any_in, in_of_list_any}
use Rattle.convoy_stamps.specs.Closures.{is_follower, reached_after, reached_from}
use Rattle.convoy_stamps.proofs.Counting.{length-in}

-- a weaker test passes the same elements, or more
module _ {X : Type 0} (p q : X → Bool) where
  no_fewer : (xs : List X) → ((x : X) → IsIn x xs → p x ≡ true → q x ≡ true) → length (filter p xs) ≤ length (filter q xs)
  no_fewer [] h = omega arith
  no_fewer (x ∷ xs) h =
      let rest = no_fewer xs (λ y i. h y (inr i)) in
      elim (cases_Bool (p x)) [
        | inl e ↦ omega (arith, ap length (filter_keeps p x xs e), ap length (filter_keeps q x xs (h x (inl refl) e)))
        | inr e ↦ elim (cases_Bool (q x)) [
          | inl f ↦ omega (arith, ap length (filter_drops p x xs e), ap length (filter_keeps q x xs f))
          | inr f ↦ omega (arith, ap length (filter_drops p x xs e), ap length (filter_drops q x xs f))
        ]
      ]

  same_or_more : (xs : List X) → ((x : X) → IsIn x xs → p x ≡ true → q x ≡ true)
      → ((x : X) → IsIn x xs → q x ≡ true → p x ≡ true) ⊎ (length (filter p xs) < length (filter q xs))
  same_or_more [] h = inl (λ x i. absurd i)
  same_or_more (x ∷ xs) h =
      let fewer = no_fewer xs (λ y i. h y (inr i)) in
      elim (cases_Bool (p x)) [
        | inl e ↦ elim (same_or_more xs (λ y i. h y (inr i))) [
          | inl same ↦ inl (λ y i t. elim i [ inl s ↦ ap p (sym s) ∙ e | inr j ↦ same y j t ])
          | inr more ↦ inr (omega (arith, ap length (filter_keeps p x xs e), ap length (filter_keeps q x xs (h x (inl refl) e))))
        ]
        | inr e ↦ elim (cases_Bool (q x)) [
          | inl f ↦ inr (omega (arith, ap length (filter_drops p x xs e), ap length (filter_keeps q x xs f)))
          | inr f ↦ elim (same_or_more xs (λ y i. h y (inr i))) [
            | inl same ↦ inl (λ y i t. elim i [ inl s ↦ absurd (both_ways (q x) f (ap q s ∙ t)) | inr j ↦ same y j t ])
            | inr more ↦ inr (omega (arith, ap length (filter_drops p x xs e), ap length (filter_drops q x xs f)))
          ]
        ]
      ]

  same_filter : (xs : List X) → ((x : X) → IsIn x xs → p x ≡ true → q x ≡ true) → ((x : X) → IsIn x xs → q x ≡ true → p x ≡ true)
      → filter q xs ≡ filter p xs
  same_filter [] h k = refl
  same_filter (x ∷ xs) h k =
      let rest = same_filter xs (λ y i. h y (inr i)) (λ y i. k y (inr i)) in
      elim (cases_Bool (p x)) [
        | inl e ↦ filter_keeps q x xs (h x (inl refl) e) ∙ ap (λ ys. x ∷ ys) rest ∙ sym (filter_keeps p x xs e)
        | inr e ↦ elim (cases_Bool (q x)) [
          | inl f ↦ absurd (both_ways (p x) e (k x (inl refl) f))
          | inr f ↦ filter_drops q x xs f ∙ rest ∙ sym (filter_drops p x xs e)
        ]
      ]

pub length-filter-le : {X : Type 0} (p : X → Bool) (xs : List X) → length (filter p xs) ≤ length xs
length-filter-le p [] = omega arith
length-filter-le p (x ∷ xs) =
    let rest = length-filter-le p xs in
    elim (cases_Bool (p x)) [
      | inl e ↦ omega (arith, ap length (filter_keeps p x xs e))
      | inr e ↦ omega (arith, ap length (filter_drops p x xs e))
    ]

module _ {X : Type 0} (follows : X → X → Bool) (itself : (x : X) → follows x x ≡ true) (all : List X) (start : X) (there : IsIn start all) where
  abbrev pub after : ℕ → List X
  after rounds = reached_after follows all start rounds

  is_next : ℕ → X → Bool
  is_next rounds y = is_follower follows (after rounds) y

  -- with each of its elements the list has what follows it
  abbrev pub IsClosed : List X → Type 0
  IsClosed xs = (x y : X) → IsIn x xs → IsIn y all → follows x y ≡ true → IsIn y xs

  pub step : (rounds : ℕ) (x y : X) → IsIn x (after rounds) → IsIn y all → follows x y ≡ true → IsIn y (after (suc rounds))
  step rounds x y i j f =
      in-filter (λ y. is_follower follows (reached_after follows all start rounds) y) y all j
      (list_any_in (λ x. follows x y) x (reached_after follows all start rounds) i f)

  in_all : (rounds : ℕ) (x : X) → IsIn x (after rounds) → IsIn x all
  in_all zero x (inl e) = subst (λ y. IsIn y all) e there
  in_all zero x (inr n) = absurd n
  in_all (suc rounds) x i = (in_of_filter (λ y. is_follower follows (reached_after follows all start rounds) y) x all i).0

  stays : (rounds : ℕ) (x : X) → IsIn x (after rounds) → IsIn x (after (suc rounds))
  stays rounds x i = step rounds x x i (in_all rounds x i) (itself x)

  pub start_in : (rounds : ℕ) → IsIn start (after rounds)
  start_in zero = inl refl
  start_in (suc rounds) = stays rounds start (start_in rounds)

  -- each round adds an element, until one adds none
  grows : (rounds : ℕ) → (suc rounds ≤ length (after (suc rounds))) ⊎ IsClosed (after (suc rounds))
  unfolding is_next
  grows zero = inl (length-in start (after (suc zero)) (start_in (suc zero)))
  grows (suc rounds) = elim (grows rounds) [
    | inr closed ↦ inr (λ x y i j f.
        stays (suc rounds) y (closed x y (back closed x i) j f))
    | inl many ↦ elim (same_or_more (is_next rounds) (is_next (suc rounds)) all (λ x i t. (in_of_filter (is_next (suc rounds)) x all (stays (suc rounds) x (in-filter (is_next rounds) x all i t))).1)) [
      | inr more ↦ inl (omega arith)
      | inl same ↦ inr (λ x y i j f.
          let old : IsIn x (after (suc rounds)) = let r = in_of_filter (is_next (suc rounds)) x all i in in-filter (is_next rounds) x all r.0 (same x r.0 r.1) in
          step (suc rounds) x y old j f)
    ]
  ] where
    back : IsClosed (after (suc rounds)) → (x : X) → IsIn x (after (suc (suc rounds))) → IsIn x (after (suc rounds))
    back closed x i =
        let r = in_of_filter (is_next (suc rounds)) x all i in
        let p = in_of_list_any (λ z. follows z x) (after (suc rounds)) r.1 in
        closed p.0 x p.1 r.0 p.2

  pub closed : IsClosed (reached_from follows all start)
  closed = elim (grows (length all)) [
    | inr c ↦ c
    | inl many ↦
        let few = length-filter-le (λ y. is_follower follows (reached_after follows all start (length all)) y) all in
        absurd (omega arith)
  ]

  pub least : (P : X → Type 0) → P start → ((x y : X) → P x → IsIn y all → follows x y ≡ true → P y) → (rounds : ℕ) (x : X) → IsIn x (after rounds) → P x
  least P s c zero x (inl e) = subst P e s
  least P s c zero x (inr n) = absurd n
  least P s c (suc rounds) x i =
      let r = in_of_filter (λ y. is_follower follows (reached_after follows all start rounds) y) x all i in
      let p = in_of_list_any (λ z. follows z x) (reached_after follows all start rounds) r.1 in
      c p.0 x (least P s c rounds p.0 p.1) r.0 p.2

  -- where a round adds none, no later one does
  unchanged : (rounds : ℕ) → length (after (suc (suc rounds))) ≡ length (after (suc rounds)) → after (suc (suc rounds)) ≡ after (suc rounds)
  unfolding is_next
  unchanged rounds long =
      let kept : (x : X) → IsIn x all → is_next rounds x ≡ true → is_next (suc rounds) x ≡ true = λ x i t.
      (in_of_filter (is_next (suc rounds)) x all (stays (suc rounds) x (in-filter (is_next rounds) x all i t))).1 in
      elim (same_or_more (is_next rounds) (is_next (suc rounds)) all kept) [
        | inl same ↦ same_filter (is_next rounds) (is_next (suc rounds)) all kept same
        | inr more ↦ absurd (omega arith)
      ]

  pub stable : (rounds more : ℕ) → length (after (suc (suc rounds))) ≡ length (after (suc rounds)) → after (suc (rounds + more)) ≡ after (suc rounds)
  stable rounds zero long = let none : rounds + 0 ≡ rounds = omega arith in ap (λ r. after (suc r)) none
  stable rounds (suc more) long =
      let next : rounds + suc more ≡ suc (rounds + more) = omega arith in
      ap (λ r. after (suc r)) next
      ∙ ap (λ some. filter (is_follower follows some) all) (stable rounds more long)
      ∙ unchanged rounds long
