-- Starts that are added: those that were there stay, and what is there then was there or is new.
use Rattle.std.proofs.Common.{◌≡◌, Bool, true, ◌⊎◌, inl, inr, List, [], ◌∷◌, ◌++◌, fold, refl, sym, subst}
use Rattle.std.specs.List.{list_any}
use Rattle.std.proofs.lemmas.Bool.{cases_Bool, cond-true, cond-false}
use Rattle.convoy_scenario.specs.Scenario.{Scenario}
use Rattle.convoy_sim.specs.Times.{Tick}
use Rattle.convoy_sim.proofs.Membership.{IsIn, in-append_left, in-append_right, in_append_cases, in_of_list_any}
use Rattle.convoy_stamps.specs.declared.pair.Pair.{Pair}
use Rattle.convoy_sure.specs.Windows.{LeadTables}
use Rattle.convoy_sure.specs.SureLeads.{Sure}
use Rattle.convoy_starts.specs.Starts.{Start, covers, may_commit, start_of, with_start, add_start}

-- ---- one start
covered_by : List Start → Start → Bool
covered_by starts new = list_any (λ old. covers old new) starts

with_stays : (starts : List Start) (new s : Start) → IsIn s starts → IsIn s (with_start starts new)
unfolding covered_by
with_stays starts new s i = elim (cases_Bool (covered_by starts new)) [
  | inl e ↦ subst (IsIn s) (sym (cond-true (covered_by starts new) starts (starts ++ new ∷ []) e)) i
  | inr e ↦ subst (IsIn s) (sym (cond-false (covered_by starts new) starts (starts ++ new ∷ []) e)) (in-append_left s starts (new ∷ []) i)
]

in_of_with : (starts : List Start) (new s : Start) → IsIn s (with_start starts new) → IsIn s starts ⊎ (new ≡ s)
unfolding covered_by
in_of_with starts new s i = elim (cases_Bool (covered_by starts new)) [
  | inl e ↦ inl (subst (IsIn s) (cond-true (covered_by starts new) starts (starts ++ new ∷ []) e) i)
  | inr e ↦ elim (in_append_cases s starts (new ∷ []) (subst (IsIn s) (cond-false (covered_by starts new) starts (starts ++ new ∷ []) e) i)) [
    | inl j ↦ inl j
    | inr j ↦ elim j [ inl same ↦ inr same | inr none ↦ absurd none ]
  ]
]

-- a start that covers a new one, or that itself, is there once it is added
with_has : (starts : List Start) (new : Start) → (s : Start) × IsIn s (with_start starts new) × ((IsIn s starts × (covers s new ≡ true)) ⊎ (new ≡ s))
unfolding covered_by
with_has starts new = elim (cases_Bool (covered_by starts new)) [
  | inl e ↦
      let r = in_of_list_any (λ old. covers old new) starts e in
      (r.0, with_stays starts new r.0 r.1, inl (r.1, r.2))
  | inr e ↦ (
    new,
    subst (IsIn new) (sym (cond-false (covered_by starts new) starts (starts ++ new ∷ []) e)) (in-append_right new starts (new ∷ []) (inl refl)),
    inr refl,
  )
]

-- ---- those of pairs
module _ (scenario : Scenario) (tables : LeadTables) (sure : Sure) (barring : Bool) (tick : Tick) where
  abbrev pub add : List Start → Pair → List Start
  add = add_start scenario tables sure barring tick

  pub add_stays : (starts : List Start) (pair : Pair) (s : Start) → IsIn s starts → IsIn s (add starts pair)
  add_stays starts pair s i =
      let new : Start = start_of scenario tables sure barring starts tick pair in
      elim (cases_Bool (may_commit scenario tables.times tick pair)) [
        | inl e ↦ subst (IsIn s) (sym (cond-true (may_commit scenario tables.times tick pair) (with_start starts new) starts e)) (with_stays starts new s i)
        | inr e ↦ subst (IsIn s) (sym (cond-false (may_commit scenario tables.times tick pair) (with_start starts new) starts e)) i
      ]

  pub in_of_add : (starts : List Start) (pair : Pair) (s : Start) → IsIn s (add starts pair)
      → IsIn s starts ⊎ ((may_commit scenario tables.times tick pair ≡ true) × (start_of scenario tables sure barring starts tick pair ≡ s))
  in_of_add starts pair s i =
      let new : Start = start_of scenario tables sure barring starts tick pair in
      elim (cases_Bool (may_commit scenario tables.times tick pair)) [
        | inl e ↦ elim (in_of_with starts new s (subst (IsIn s) (cond-true (may_commit scenario tables.times tick pair) (with_start starts new) starts e) i)) [
          | inl j ↦ inl j
          | inr same ↦ inr (e, same)
        ]
        | inr e ↦ inl (subst (IsIn s) (cond-false (may_commit scenario tables.times tick pair) (with_start starts new) starts e) i)
      ]

  pub add_has : (starts : List Start) (pair : Pair) → may_commit scenario tables.times tick pair ≡ true
      → (s : Start) × IsIn s (add starts pair)
      × ((IsIn s starts × (covers s (start_of scenario tables sure barring starts tick pair) ≡ true)) ⊎ (start_of scenario tables sure barring starts tick pair ≡ s))
  add_has starts pair e =
      let new : Start = start_of scenario tables sure barring starts tick pair in
      let r = with_has starts new in
      (r.0, subst (IsIn r.0) (sym (cond-true (may_commit scenario tables.times tick pair) (with_start starts new) starts e)) r.1, r.2)

  pub all_stay : (starts : List Start) (pairs : List Pair) (s : Start) → IsIn s starts → IsIn s (fold add starts pairs)
  all_stay starts [] s i = i
  all_stay starts (p ∷ ps) s i = all_stay (add starts p) ps s (add_stays starts p s i)
