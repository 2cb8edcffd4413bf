-- Round trips joined with those of their pairs.
use Rattle.std.proofs.Common.{◌≡◌, ℕ, suc, ◌+◌, ◌<◌, ◌≤◌, true, false, List, [], ◌∷◌, ◌++◌, length, get_or, drop, Some, None, Result, Ok, Err, refl, ap, sym, ◌∙◌, inl, inr, arith}
use Rattle.std.specs.Prelude.{slice_set, position, nat_le, nat_lt}
use Rattle.std.specs.List.{position_or_len}
use Rattle.std.proofs.lemmas.Bool.{cases_Bool}
use Rattle.std.proofs.lemmas.Bool.Decides.{nat_tests}
use Rattle.std.proofs.lemmas.List.{drop_all, drop_more}
use Rattle.convoy_scenario.specs.Memory.{IsUnlessMemory}
use Rattle.convoy_ranges.specs.declared.fault.Cause.TheVariants.{TooMany}
use Rattle.convoy_ranges.specs.declared.fault.RangesFault.{RangesFault}
use Rattle.convoy_ranges.specs.declared.fault.RangesFault.TheVariants.{Line, Memory}
use Rattle.convoy_ranges.specs.declared.fault.TheConstants.{MOST_PAIRS}
use Rattle.convoy_ranges.specs.Tables.{Sighting}
use Rattle.convoy_ranges.specs.Ranges.{is_same_pair, joined, pairs_from, with_seen}

-- the place of the first of the same pair, or how many there are
abbrev place_of : List Sighting → Sighting → ℕ
place_of pairs seen = position_or_len (λ pair. is_same_pair pair seen) pairs

after_one : (k : ℕ) → 1 + k ≡ suc k
after_one k = omega arith

there : (pairs : List Sighting) (seen other : Sighting) → place_of pairs seen < length pairs
    → slice_set pairs (place_of pairs seen) (joined (get_or pairs (place_of pairs seen) other) seen) ≡ with_seen pairs seen
there [] seen other below = absurd (omega arith)
there (pair ∷ pairs) seen other below =
    elim (cases_Bool (is_same_pair pair seen)) [
      | inl same ↦ rw same refl
      | inr differs ↦
          let rest : place_of pairs seen < length pairs = let h = rw (differs, after_one) at below in omega (arith, h) in
          rw (differs, after_one) (ap (λ (ps : List Sighting). pair ∷ ps) (there pairs seen other rest))
    ]

nowhere : (pairs : List Sighting) (seen : Sighting) → length pairs ≤ place_of pairs seen → pairs ++ seen ∷ [] ≡ with_seen pairs seen
nowhere [] seen past = refl
nowhere (pair ∷ pairs) seen past =
    elim (cases_Bool (is_same_pair pair seen)) [
      | inl same ↦ absurd (let h = rw same at past in omega (arith, h))
      | inr differs ↦
          let rest : length pairs ≤ place_of pairs seen = let h = rw (differs, after_one) at past in omega (arith, h) in
          rw differs (ap (λ (ps : List Sighting). pair ∷ ps) (nowhere pairs seen rest))
    ]

pub seen_at : (pairs : List Sighting) (seen other : Sighting) (i : ℕ) → position (λ pair. is_same_pair pair seen) pairs ≡ Some i
    → slice_set pairs i (joined (get_or pairs i other) seen) ≡ with_seen pairs seen
seen_at pairs seen other i is =
    elim (cases_Bool (nat_lt (place_of pairs seen) (length pairs))) [
      | inl below ↦
          let same : place_of pairs seen ≡ i = let h = rw below at is in cc h in
          rw (← same) (there pairs seen other (grind (arith, nat_tests)))
      | inr past ↦ absurd (let h = rw past at is in cc h)
    ]

pub seen_new : (pairs : List Sighting) (seen : Sighting) → position (λ pair. is_same_pair pair seen) pairs ≡ None → pairs ++ seen ∷ [] ≡ with_seen pairs seen
seen_new pairs seen is =
    elim (cases_Bool (nat_lt (place_of pairs seen) (length pairs))) [
      | inl below ↦ absurd (let h = rw below at is in cc h)
      | inr past ↦ nowhere pairs seen (grind (arith, nat_tests))
    ]

module _ (pairs all : List Sighting) (seen : Sighting) (i : ℕ) (total : Result (List Sighting) RangesFault) (below : i < length all) (is : seen ≡ get_or all i seen)
    (so_far : pairs_from pairs (drop i all) ≡ total) where
  -- the round trip at hand stands before those that are left
  opened : pairs_from pairs (seen ∷ drop (i + 1) all) ≡ total
  opened = sym (ap (pairs_from pairs) (rw (← is) at (drop_more all i seen below))) ∙ so_far

  pub pair_more : length (with_seen pairs seen) ≤ MOST_PAIRS → pairs_from (with_seen pairs seen) (drop (i + 1) all) ≡ total
  unfolding pairs_from
  pair_more few = let within : nat_le (length (with_seen pairs seen)) MOST_PAIRS ≡ true = grind (arith, nat_tests) in rw within at opened

  pub pair_stops : MOST_PAIRS < length (with_seen pairs seen) → IsUnlessMemory Memory total (Err (Line seen.line TooMany))
  unfolding pairs_from
  pair_stops many = let beyond : nat_le (length (with_seen pairs seen)) MOST_PAIRS ≡ false = grind (arith, nat_tests) in inl (rw beyond at opened)

pub pairs_done : (pairs all : List Sighting) (i : ℕ) (total : Result (List Sighting) RangesFault) → length all ≤ i → pairs_from pairs (drop i all) ≡ total
    → IsUnlessMemory Memory total (Ok pairs)
unfolding pairs_from
pairs_done pairs all i total past so_far = inl (sym (ap (pairs_from pairs) (drop_all i all past)) ∙ so_far)
