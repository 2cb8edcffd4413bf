-- What caps and windows say of the times of messages.
use Rattle.std.proofs.Common.{◌≡◌, ℕ, ◌+◌, ◌-◌, ◌<◌, ◌≤◌, min, true, ◌==◌, nat_le, inl, inr, List, [], ◌∷◌, length, map, filter, fold, refl, subst, arith}
use Rattle.std.specs.List.{range_with_len}
use Rattle.std.proofs.lemmas.Bool.{cases_Bool, cases_lt, cond-true, cond-false, eq-eqb, le-leb, or_left, or_right, both_ways}
use Rattle.convoy_sim.proofs.Membership.{IsIn, in-filter, in_of_map, in_of_range}
use Rattle.convoy_stamps.proofs.Counting.{at_least}
use Rattle.convoy_starts.specs.Starts.{capped, may_be_above, room_above, window}

-- a cap
pub within_cap : (x sure lead value time : ℕ) → sure ≤ x → time ≤ (x - sure) + value → lead ≤ (x + 1) - time → time ≤ (x - sure) + capped sure lead value
within_cap x sure lead value time s t l = elim (cases_Bool (lead == 0)) [
  | inl e ↦ omega (arith, cond-true (lead == 0) value (min value (sure + 1 - lead)) e)
  | inr e ↦
      let some : 0 < lead = elim (cases_lt 0 lead) [
        | inl a ↦ a
        | inr a ↦ absurd (both_ways (lead == 0) e (eq-eqb lead 0 (omega arith)))
      ] in
      omega (arith, cond-false (lead == 0) value (min value (sure + 1 - lead)) e)
]

-- the least of some numbers
pub least_over : (b a : ℕ) (xs : List ℕ) → b ≤ a → ((x : ℕ) → IsIn x xs → b ≤ x) → b ≤ fold min a xs
least_over b a [] l h = l
least_over b a (x ∷ xs) l h = let first = h x (inl refl) in least_over b (min a x) xs (omega arith) (λ y i. h y (inr i))

-- a window
pub within_window : (f lead : ℕ → ℕ) (zs : List ℕ) (x sure value v n : ℕ) → sure ≤ x → v ≤ (x - sure) + value
    → ((u : ℕ) → v < u → u ≤ n → (z : ℕ) × IsIn z zs × (f z ≡ u))
    → ((z : ℕ) → IsIn z zs → lead z ≤ (x + 1) - f z)
    → n ≤ (x - sure) + window sure lead zs value
within_window f lead zs x sure value v n s start counted leads =
    let y : ℕ = x - sure in
    let all : n - y ≤ value + length zs = plain in
    let least = least_over (n - y) (value + length zs) (map (room_above sure lead zs) (range_with_len value (length zs))) all
    (λ w i. let r = in_of_map (room_above sure lead zs) w (range_with_len value (length zs)) i in
    subst (λ k. n - y ≤ k) r.2 (each r.0 (in_of_range r.0 value (length zs) r.1).0)) in
    omega arith where
      plain : n - (x - sure) ≤ value + length zs
      plain = elim (cases_lt ((x - sure) + value) n) [
        | inr l ↦ omega arith
        | inl l ↦
            let k : ℕ = n - ((x - sure) + value) in
            let many = at_least f k ((x - sure) + value) zs (λ u a b. counted u (omega arith) (omega arith)) in
            omega arith
      ]

      each : (c : ℕ) → value ≤ c → n - (x - sure) ≤ c + length (filter (λ z. may_be_above sure c (lead z)) zs)
      each c low = elim (cases_lt ((x - sure) + c) n) [
        | inr l ↦ omega arith
        | inl l ↦
            let k : ℕ = n - ((x - sure) + c) in
            let part : List ℕ = filter (λ z. may_be_above sure c (lead z)) zs in
            let many = at_least f k ((x - sure) + c) part (λ u a b.
            let r = counted u (omega arith) (omega arith) in
            let room : lead r.0 ≤ (x + 1) - f r.0 = leads r.0 r.1 in
            let same : f r.0 ≡ u = r.2 in
            (r.0, in-filter (λ z. may_be_above sure c (lead z)) r.0 zs r.1 (test c (lead r.0) (λ t. omega arith)), r.2)) in
            omega arith
      ] where
        test : (c l : ℕ) → (0 < l → c + l ≤ sure) → may_be_above sure c l ≡ true
        test c l h = elim (cases_lt 0 l) [
          | inl p ↦ or_right (l == 0) (nat_le (c + l) sure) (le-leb (c + l) sure (h p))
          | inr p ↦ or_left (l == 0) (nat_le (c + l) sure) (eq-eqb l 0 (omega arith))
        ]
