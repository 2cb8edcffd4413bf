-- Names of groups in two lists, and their numbers in each.
use Rattle.std.proofs.Common.{All, ◌≡◌, ℕ, ◌<◌, ◌≤◌, ◌==◌, ◌&&◌, Bool, true, nat_lt, List, [], length, get_or, Option, Some, None, inl, inr, refl, sym, ap, ap₂, subst, ◌∙◌, arith}
use Rattle.std.specs.List.{list_any, IsDistinct}
use Rattle.std.specs.List.Sorted.{IsPermutation}
use Rattle.std.specs.Str.{bytes_eq}
use Rattle.std.proofs.lemmas.List.Sorted.{All-permutation}
use Rattle.std.proofs.lemmas.Bool.{cases_Bool, cases_lt, cond-true, cond-false, lt-ltb, le-ltb, and_from, and_parts, ltb-true, eqb-true, both_ways, false_from_ne_true}
use Rattle.convoy_draft.specs.Checks.{is_among}
use Rattle.convoy_scenario.specs.declared.sender.Sender.TheVariants.{Group}
use Rattle.convoy_scenario.specs.Numbering.{place, numbers_of, sender_of}
use Rattle.convoy_scenario.proofs.NumberLemmas.{numbers_have}
use Rattle.convoy_scenario.proofs.NumberedAgain.{any_at, itself, place_again}
use Rattle.convoy_scenario.proofs.PlaceLemmas.{place_within, name_at_place}
use Rattle.convoy_sim.proofs.Membership.{in_of_filter, in_of_list_any, in_of_range}
use Rattle.convoy_orders.specs.Renumbered.{renumbered_sender}
use Rattle.convoy_orders.specs.Relisted.{number_in}

-- names in another order are the same names
pub all_among : (groups names : List (List ℕ)) → IsPermutation groups names → All (λ name. is_among name groups ≡ true) names
all_among groups names same =
    All-permutation (λ name. is_among name groups ≡ true) groups names same
    (λ g d l. any_at (bytes_eq (get_or groups g d)) groups g d l (itself (get_or groups g d)))

-- a name of one list is one of another, where all of the one are in the other
known_there : (xs ys : List (List ℕ)) → ((g : ℕ) → g < length xs → is_among (get_or xs g []) ys ≡ true) → (name : List ℕ) → is_among name xs ≡ true → is_among name ys ≡ true
known_there xs ys all name known = subst (λ n. is_among n ys ≡ true) (name_at_place name xs known) (all (place name xs) (place_within (bytes_eq name) xs known))

-- so lists of which each has all names of the other have the same names
pub among_alike : (xs ys : List (List ℕ)) → ((g : ℕ) → g < length xs → is_among (get_or xs g []) ys ≡ true) → ((g : ℕ) → g < length ys → is_among (get_or ys g []) xs ≡ true)
    → (name : List ℕ) → is_among name ys ≡ is_among name xs
among_alike xs ys all no_others name = elim (cases_Bool (is_among name xs)) [
  | inl known ↦ known_there xs ys all name known ∙ sym known
  | inr none ↦ false_from_ne_true _ (λ known. both_ways _ none (known_there ys xs no_others name known)) ∙ sym none
]

-- which numbers are those of some names
pub numbers_tell : (groups named : List (List ℕ)) (g : ℕ)
    → list_any (λ h. h == g) (numbers_of groups named) ≡ (nat_lt g (length groups) && is_among (get_or groups g []) named)
numbers_tell groups named g = elim (cases_Bool (list_any (λ h. h == g) (numbers_of groups named))) [
  | inl some ↦
      let r = in_of_list_any (λ h. h == g) (numbers_of groups named) some in
      let same : r.0 ≡ g = eqb-true r.0 g r.2 in
      let kept = in_of_filter (λ h. is_among (get_or groups h []) named) r.0 _ r.1 in
      let low = in_of_range r.0 0 (length groups) kept.0 in
      some ∙ sym (and_from _ _ (lt-ltb g (length groups) (omega arith)) (ap (λ h. is_among (get_or groups h []) named) (sym same) ∙ kept.1))
  | inr none ↦
      none
      ∙ sym (false_from_ne_true _ (λ e.
      let parts = and_parts (nat_lt g (length groups)) (is_among (get_or groups g []) named) e in
      both_ways _ none (numbers_have groups named g (ltb-true g (length groups) parts.0) parts.1)))
]

module _ (groups names : List (List ℕ)) (long : length names ≡ length groups) (all : (g : ℕ) → g < length groups → is_among (get_or groups g []) names ≡ true) where
  number_is : (g : ℕ) → g < length groups → number_in names groups g ≡ place (get_or groups g []) names
  number_is g l = cond-true _ _ _ (lt-ltb g (length groups) l)

  pub number_past : (g : ℕ) → length groups ≤ g → number_in names groups g ≡ g
  number_past g l = cond-false _ _ _ (le-ltb g (length groups) l)

  pub number_low : (g : ℕ) → g < length groups → number_in names groups g < length names
  number_low g l = subst (λ n. n < length names) (sym (number_is g l)) (place_within (bytes_eq (get_or groups g [])) names (all g l))

  pub name_kept : (g : ℕ) → g < length groups → get_or names (number_in names groups g) [] ≡ get_or groups g []
  name_kept g l = ap (λ n. get_or names n []) (number_is g l) ∙ name_at_place (get_or groups g []) names (all g l)

  -- a name that is known has its number
  pub number_of_name : (name : List ℕ) → is_among name groups ≡ true → place name names ≡ number_in names groups (place name groups)
  number_of_name name known =
      let l = place_within (bytes_eq name) groups known in
      ap (λ n. place n names) (sym (name_at_place name groups known)) ∙ sym (number_is (place name groups) l)

  -- a sender that is a group has its number, and a place stays where it is
  pub sender_renumbered : ((g : ℕ) → g < length names → is_among (get_or names g []) groups ≡ true) → (places : List (List ℕ)) (sender : Option (List ℕ))
      → sender_of names places sender ≡ renumbered_sender (number_in names groups) (sender_of groups places sender)
  sender_renumbered no_others places None = refl
  sender_renumbered no_others places (Some name) =
      let alike = among_alike groups names all no_others name in
      elim (cases_Bool (is_among name groups)) [
        | inl known ↦ let there = alike ∙ known in rw (there, known) (ap (λ g. Group g) (number_of_name name known))
        | inr none ↦ let nowhere = alike ∙ none in rw (nowhere, none) refl
      ]

  pub addressed_renumbered : (named : List (List ℕ)) (g : ℕ)
      → list_any (λ h. h == number_in names groups g) (numbers_of names named) ≡ list_any (λ h. h == g) (numbers_of groups named)
  addressed_renumbered named g = elim (cases_lt g (length groups)) [
    | inl l ↦
        numbers_tell names named (number_in names groups g)
        ∙ ap₂ (λ (a b : Bool). a && b) (lt-ltb _ _ (number_low g l) ∙ sym (lt-ltb _ _ l)) (ap (λ name. is_among name named) (name_kept g l))
        ∙ sym (numbers_tell groups named g)
    | inr l ↦
        ap (λ n. list_any (λ h. h == n) (numbers_of names named)) (number_past g l)
        ∙ numbers_tell names named g
        ∙ ap (λ (a : Bool). a && is_among (get_or names g []) named) (le-ltb g (length names) (omega arith))
        ∙ ap (λ (a : Bool). a && is_among (get_or groups g []) named) (sym (le-ltb g (length groups) l))
        ∙ sym (numbers_tell groups named g)
  ]

  module _ (differ : IsDistinct bytes_eq groups) where
    pub number_back : (g : ℕ) → number_in groups names (number_in names groups g) ≡ g
    number_back g = elim (cases_lt g (length groups)) [
      | inl l ↦
          cond-true _ _ _ (lt-ltb (number_in names groups g) (length names) (number_low g l))
          ∙ ap (λ name. place name groups) (name_kept g l)
          ∙ place_again groups g differ l
      | inr l ↦ ap (number_in groups names) (number_past g l) ∙ cond-false _ _ _ (le-ltb g (length names) (omega arith))
    ]
