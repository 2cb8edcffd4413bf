-- The first place at which a test passes, as the numbering takes it.
use Rattle.std.proofs.Common.{◌≡◌, ℕ, ◌<◌, Bool, true, List, [], length, get_or, Some, unwrap_or, position, inl, inr, refl, sym, ap, ◌∙◌, arith}
use Rattle.std.specs.List.{list_any, position_or_len, find}
use Rattle.std.specs.Str.{bytes_eq}
use Rattle.std.proofs.lemmas.Bool.{cases_lt, lt-ltb, false≢true}
use Rattle.std.proofs.lemmas.List.Folds.{Any-from_list_any, find_at}
use Rattle.std.proofs.lemmas.List.Sums.{fails_before_first, passes_at_first}
use Rattle.std.proofs.lemmas.Option.{slice_get-get_or}
use Rattle.std.proofs.lemmas.Slice.Eq.{bytes_eq-Decides}
use Rattle.convoy_draft.specs.Checks.{is_among}
use Rattle.convoy_scenario.specs.Numbering.{place}

first_within : {X : Type 0} (p : X → Bool) (xs : List X) → list_any p xs ≡ true → position_or_len p xs < length xs
first_within p xs some =
    let found = Any-from_list_any p xs some in
    elim (cases_lt (position_or_len p xs) (length xs)) [
      | inl within ↦ within
      | inr past ↦
          let before : found.0 < position_or_len p xs = omega (arith, found.2, past) in
          absurd (false≢true (sym (fails_before_first p xs found.0 found.1 before) ∙ ap p found.3 ∙ found.4))
    ]

-- the place is that of the first that passes
first_is : {X : Type 0} (p : X → Bool) (xs : List X) → list_any p xs ≡ true → unwrap_or (position p xs) 0 ≡ position_or_len p xs
first_is p xs some = rw (lt-ltb _ _ (first_within p xs some)) refl

-- it is a place of the list, where the test passes
pub place_within : {X : Type 0} (p : X → Bool) (xs : List X) → list_any p xs ≡ true → unwrap_or (position p xs) 0 < length xs
place_within p xs some = rw (first_is p xs some) (first_within p xs some)

pub place_passes : {X : Type 0} (p : X → Bool) (xs : List X) (d : X) → list_any p xs ≡ true → p (get_or xs (unwrap_or (position p xs) 0) d) ≡ true
place_passes p xs d some = rw (first_is p xs some) (passes_at_first p xs d (first_within p xs some))

-- and what `find` gives stands there
pub find_place : {X : Type 0} (p : X → Bool) (xs : List X) (d : X) → list_any p xs ≡ true → find p xs ≡ Some (get_or xs (unwrap_or (position p xs) 0) d)
find_place p xs d some =
    find_at p xs ∙ slice_get-get_or xs (position_or_len p xs) d (first_within p xs some) ∙ ap (λ i. Some (get_or xs i d)) (sym (first_is p xs some))

-- the name stands at its place
pub name_at_place : (name : List ℕ) (names : List (List ℕ)) → is_among name names ≡ true → get_or names (place name names) [] ≡ name
name_at_place name names some = sym ((bytes_eq-Decides name _).0 (place_passes (bytes_eq name) names [] some))
