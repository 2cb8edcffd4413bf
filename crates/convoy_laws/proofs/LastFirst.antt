-- The order in which sure leads are computed: it has all pairs, and none but pairs, and no pair before one that arrives later.
use Rattle.std.proofs.Common.{◌≡◌, true, ◌⊎◌, inl, inr, List, [], ◌∷◌, fold, sym, subst}
use Rattle.std.proofs.lemmas.Bool.{cases_Bool, cond-true, cond-false, both_ways}
use Rattle.convoy_scenario.specs.Scenario.{Scenario}
use Rattle.convoy_sim.proofs.Membership.{IsIn}
use Rattle.convoy_intervals.specs.Bounds.{Tables}
use Rattle.convoy_stamps.specs.declared.pair.Pair.{Pair}
use Rattle.convoy_stamps.specs.Reach.{IsPair, pairs_of}
use Rattle.convoy_stamps.proofs.Pairs.{in-pairs, goes_of_pair}
use Rattle.convoy_sure.specs.SureLeads.{is_later, insert_pair, last_first}
use Rattle.convoy_laws.proofs.Firsts.{first_chain, first_one_way}

module _ (tables : Tables) where
  -- each pair arrives no later than those before it
  abbrev pub AreLastFirst : List Pair → Type 0
  AreLastFirst [] = Unit {0}
  AreLastFirst (p ∷ ps) = ((r : Pair) → IsIn r ps → is_later tables r p ≡ true → ⊥) × AreLastFirst ps

  later_chain : (r p q : Pair) → is_later tables r p ≡ true → is_later tables p q ≡ true → is_later tables r q ≡ true
  later_chain r p q one two =
      first_chain (tables.greatest_arrival q.message q.group) q.message (tables.greatest_arrival p.message p.group) p.message
      (tables.greatest_arrival r.message r.group) r.message two one

  pub later_one_way : (p q : Pair) → is_later tables p q ≡ true → is_later tables q p ≡ true → ⊥
  later_one_way p q one two =
      first_one_way (tables.greatest_arrival q.message q.group) q.message (tables.greatest_arrival p.message p.group) p.message one two

  in_of_inserted : (p z : Pair) (qs : List Pair) → IsIn z (insert_pair tables qs p) → (p ≡ z) ⊎ IsIn z qs
  in_of_inserted p z [] h = h
  in_of_inserted p z (q ∷ qs) h =
      let rest = in_of_inserted p z qs in
      elim (cases_Bool (is_later tables p q)) [
        | inl e ↦ subst (IsIn z) (cond-true (is_later tables p q) (p ∷ q ∷ qs) (q ∷ insert_pair tables qs p) e) h
        | inr e ↦ elim (subst (IsIn z) (cond-false (is_later tables p q) (p ∷ q ∷ qs) (q ∷ insert_pair tables qs p) e) h) [
          | inl s ↦ inr (inl s)
          | inr r ↦ elim (rest r) [ inl s ↦ inl s | inr t ↦ inr (inr t) ]
        ]
      ]

  in-inserted : (p z : Pair) (qs : List Pair) → (p ≡ z) ⊎ IsIn z qs → IsIn z (insert_pair tables qs p)
  in-inserted p z [] h = h
  in-inserted p z (q ∷ qs) h =
      let rest = in-inserted p z qs in
      elim (cases_Bool (is_later tables p q)) [
        | inl e ↦ subst (IsIn z) (sym (cond-true (is_later tables p q) (p ∷ q ∷ qs) (q ∷ insert_pair tables qs p) e)) h
        | inr e ↦ subst (IsIn z) (sym (cond-false (is_later tables p q) (p ∷ q ∷ qs) (q ∷ insert_pair tables qs p) e)) (elim h [
          | inl s ↦ inr (rest (inl s))
          | inr i ↦ elim i [ inl s ↦ inl s | inr j ↦ inr (rest (inr j)) ]
        ])
      ]

  inserted_last_first : (p : Pair) (qs : List Pair) → AreLastFirst qs → AreLastFirst (insert_pair tables qs p)
  inserted_last_first p [] sorted = (λ r i h. absurd i, tt)
  inserted_last_first p (q ∷ qs) sorted = elim (cases_Bool (is_later tables p q)) [
    | inl e ↦ subst AreLastFirst (sym (cond-true (is_later tables p q) (p ∷ q ∷ qs) (q ∷ insert_pair tables qs p) e)) (
      λ r i h. elim i [
        | inl s ↦ later_one_way p q e (subst (λ (x : Pair). is_later tables x p ≡ true) (sym s) h)
        | inr j ↦ sorted.0 r j (later_chain r p q h e)
      ],
      sorted,
    )
    | inr e ↦ subst AreLastFirst (sym (cond-false (is_later tables p q) (p ∷ q ∷ qs) (q ∷ insert_pair tables qs p) e)) (
      λ r i h. elim (in_of_inserted p r qs i) [
        | inl s ↦ both_ways (is_later tables p q) e (subst (λ (x : Pair). is_later tables x q ≡ true) (sym s) h)
        | inr j ↦ sorted.0 r j h
      ],
      inserted_last_first p qs sorted.1,
    )
  ]

  all_last_first : (qs ps : List Pair) → AreLastFirst qs → AreLastFirst (fold (insert_pair tables) qs ps)
  all_last_first qs [] sorted = sorted
  all_last_first qs (p ∷ ps) sorted = all_last_first (insert_pair tables qs p) ps (inserted_last_first p qs sorted)

  all_in : (z : Pair) (qs ps : List Pair) → IsIn z qs ⊎ IsIn z ps → IsIn z (fold (insert_pair tables) qs ps)
  all_in z qs [] h = elim h [ inl i ↦ i | inr none ↦ absurd none ]
  all_in z qs (p ∷ ps) h = all_in z (insert_pair tables qs p) ps (elim h [
    | inl i ↦ inl (in-inserted p z qs (inr i))
    | inr i ↦ elim i [ inl s ↦ inl (in-inserted p z qs (inl s)) | inr j ↦ inr j ]
  ])

  of_all : (z : Pair) (qs ps : List Pair) → IsIn z (fold (insert_pair tables) qs ps) → IsIn z qs ⊎ IsIn z ps
  of_all z qs [] h = inl h
  of_all z qs (p ∷ ps) h = elim (of_all z (insert_pair tables qs p) ps h) [
    | inl i ↦ elim (in_of_inserted p z qs i) [ inl s ↦ inr (inl s) | inr j ↦ inl j ]
    | inr i ↦ inr (inr i)
  ]

  pub is_last_first : (scenario : Scenario) → AreLastFirst (last_first scenario tables)
  is_last_first scenario = all_last_first [] (pairs_of scenario) tt

  pub in-last_first : (scenario : Scenario) (pair : Pair) → IsPair scenario pair → IsIn pair (last_first scenario tables)
  in-last_first scenario pair is = all_in pair [] (pairs_of scenario) (inr (in-pairs scenario pair is))

  pub pair_of_last_first : (scenario : Scenario) (pair : Pair) → IsIn pair (last_first scenario tables) → IsPair scenario pair
  pair_of_last_first scenario pair i = elim (of_all pair [] (pairs_of scenario) i) [
    | inl none ↦ absurd none
    | inr j ↦ goes_of_pair scenario pair j
  ]
