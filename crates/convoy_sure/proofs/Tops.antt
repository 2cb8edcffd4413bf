-- What the tops of leads say of the times of messages.
use Rattle.std.proofs.Common.{ℕ, ◌+◌, ◌-◌, ◌<◌, ◌≤◌, Bool, ◌⊎◌, ◌==◌, nat_le, inl, inr, List, [], ◌∷◌, length, filter, refl, ap, subst, arith}
use Rattle.std.proofs.lemmas.Bool.{cases_Bool, cases_lt, cond-true, cond-false, eq-eqb, le-leb, leb-true, both_ways}
use Rattle.convoy_sim.proofs.Membership.{IsIn, IsOnce, filter_keeps, filter_drops, in-filter, in_of_filter, greatest_most}
use Rattle.convoy_stamps.proofs.Counting.{AreDifferent, at_most, once-filter, length-in}
use Rattle.convoy_sure.specs.SureLeads.{with_number, top_of}

-- an element past a number, or none
past_or_not : {X : Type 0} (f : X → ℕ) (w : ℕ) (xs : List X) → ((x : X) × IsIn x xs × (w ≤ f x)) ⊎ ((x : X) → IsIn x xs → f x < w)
past_or_not f w [] = inr (λ x i. absurd i)
past_or_not f w (x ∷ xs) = elim (cases_lt (f x) w) [
  | inl l ↦ elim (past_or_not f w xs) [
    | inl r ↦ inl (r.0, inr r.1, r.2)
    | inr n ↦ inr (λ y i. elim i [ inl e ↦ subst (λ z. f z < w) e l | inr j ↦ n y j ])
  ]
  | inr l ↦ inl (x, inl refl, l)
]

-- of so many different numbers above a bound one is that far above it
one_is_past : {X : Type 0} (f : X → ℕ) (low : ℕ) (xs : List X) → 0 < length xs → IsOnce xs → AreDifferent f xs → ((x : X) → IsIn x xs → low < f x)
    → (x : X) × IsIn x xs × (low + length xs ≤ f x)
one_is_past f low [] some o d h = absurd (omega arith)
one_is_past f low (y ∷ ys) some o d h = elim (past_or_not f (low + length (y ∷ ys)) (y ∷ ys)) [
  | inl r ↦ r
  | inr n ↦
      let few = at_most f (length ys) low (y ∷ ys) o d (λ x i. let l = n x i in (h x i, omega arith)) in
      absurd (omega arith)
]

-- the greatest lead and number: a time below all of these leaves as much room
pub top_within : (f lead : ℕ → ℕ) (zs : List ℕ) (most v : ℕ) → IsOnce zs → AreDifferent f zs → ((z : ℕ) → IsIn z zs → v < f z)
    → ((z : ℕ) → IsIn z zs → lead z ≤ most - f z) → top_of lead zs ≤ most - v
top_within f lead zs most v once differ above leads = greatest_most (with_number lead zs) (most - v) zs each where
  each : (z : ℕ) → IsIn z zs → with_number lead zs z ≤ most - v
  each z i =
      let test : ℕ → Bool = λ w. nat_le (lead z) (lead w) in
      let part : List ℕ = filter test zs in
      elim (cases_Bool (lead z == 0)) [
        | inl e ↦ omega (arith, cond-true (lead z == 0) 0 (lead z + length part) e)
        | inr e ↦
            let some : 0 < lead z = elim (cases_lt 0 (lead z)) [
              | inl a ↦ a
              | inr a ↦ absurd (both_ways (lead z == 0) e (eq-eqb (lead z) 0 (omega arith)))
            ] in
            let own : IsIn z part = in-filter test z zs i (le-leb (lead z) (lead z) (omega arith)) in
            let past = one_is_past f v part (length-in z part own) (once-filter test zs once)
            (λ a b j k e. differ a b (in_of_filter test a zs j).0 (in_of_filter test b zs k).0 e)
            (λ a j. above a (in_of_filter test a zs j).0) in
            let w : ℕ = past.0 in
            let q = in_of_filter test w zs past.1 in
            let high : lead z ≤ lead w = leb-true (lead z) (lead w) q.1 in
            let room : lead w ≤ most - f w = leads w q.0 in
            let far : v + length part ≤ f w = past.2 in
            omega (arith, cond-false (lead z == 0) 0 (lead z + length part) e)
      ]

-- where no lead exceeds a number, no top exceeds it by more than there are messages
pub top_small : (lead : ℕ → ℕ) (zs : List ℕ) (most : ℕ) → ((z : ℕ) → lead z ≤ most) → top_of lead zs ≤ most + length zs
top_small lead zs most each = greatest_most (with_number lead zs) (most + length zs) zs (λ z i. one z) where
  shorter : (p : ℕ → Bool) (xs : List ℕ) → length (filter p xs) ≤ length xs
  shorter p [] = omega arith
  shorter p (x ∷ xs) = let rest = shorter p xs in elim (cases_Bool (p x)) [
    | inl e ↦ omega (arith, ap length (filter_keeps p x xs e))
    | inr e ↦ omega (arith, ap length (filter_drops p x xs e))
  ]

  one : (z : ℕ) → with_number lead zs z ≤ most + length zs
  one z =
      let part : List ℕ = filter (λ w. nat_le (lead z) (lead w)) zs in
      let few = shorter (λ w. nat_le (lead z) (lead w)) zs in
      let low = each z in
      elim (cases_Bool (lead z == 0)) [
        | inl e ↦ omega (arith, cond-true (lead z == 0) 0 (lead z + length part) e)
        | inr e ↦ omega (arith, cond-false (lead z == 0) 0 (lead z + length part) e)
      ]
