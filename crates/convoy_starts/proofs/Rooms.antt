-- Room above numbers: messages over which no lead is known take some above each.
use Rattle.std.proofs.Common.{◌≡◌, ℕ, ◌+◌, ◌≤◌, ◌==◌, nat_le, min, inl, inr, Bool, true, List, [], ◌∷◌, length, filter, ap, arith}
use Rattle.std.proofs.lemmas.Bool.{cases_Bool, or_left}
use Rattle.convoy_sim.proofs.Membership.{filter_keeps, filter_drops}
use Rattle.convoy_starts.specs.Starts.{may_be_above, room_above}

-- what passes the first test passes the second, too
pub filter_within : (p q : ℕ → Bool) → ((z : ℕ) → p z ≡ true → q z ≡ true) → (zs : List ℕ) → length (filter p zs) ≤ length (filter q zs)
filter_within p q more [] = omega arith
filter_within p q more (z ∷ zs) =
    let rest = filter_within p q more zs in
    elim (cases_Bool (p z)) [
      | inl t ↦
          omega (arith, ap length (filter_keeps p z zs t), ap length (filter_keeps q z zs (more z t)))
      | inr f ↦ elim (cases_Bool (q z)) [
        | inl t ↦
            omega (arith, ap length (filter_drops p z zs f), ap length (filter_keeps q z zs t))
        | inr g ↦
            omega (arith, ap length (filter_drops p z zs f), ap length (filter_drops q z zs g))
      ]
    ]

-- a number no greater than the room that is taken for sure is the lesser one
pub unled_in_room : (sure above unled least : ℕ) (lead : ℕ → ℕ) (zs : List ℕ) → unled ≡ length (filter (λ z. lead z == 0) zs) → least ≤ above + unled → least ≡ min least (room_above sure lead zs above)
unled_in_room sure above unled least lead zs is low =
    let some = filter_within (λ z. lead z == 0) (λ z. may_be_above sure above (lead z)) (λ z t. or_left (lead z == 0) (nat_le (above + lead z) sure) t) zs in
    omega (arith, is)
