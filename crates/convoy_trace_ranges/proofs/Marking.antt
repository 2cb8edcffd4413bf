-- The place of the first that passes a test, and what is found there.
use Rattle.std.proofs.Common.{◌≡◌, cond, ℕ, suc, ◌+◌, ◌<◌, ◌≤◌, true, false, Bool, List, [], ◌∷◌, ◌++◌, length, get_or, Option, Some, None, refl, length-append, ap, sym, ◌∙◌, inl, inr, arith}
use Rattle.std.specs.Prelude.{find, is_some, nat_lt, position, slice_get}
use Rattle.std.specs.List.{position_or_len}
use Rattle.std.proofs.lemmas.Bool.{cases_Bool}
use Rattle.std.proofs.lemmas.Bool.Decides.{nat_tests}
use Rattle.std.proofs.lemmas.List.Folds.{find_at}

module _ {X : Type 0} (p : X → Bool) where
  after_one : (k : ℕ) → 1 + k ≡ suc k
  after_one k = omega arith

  -- the first place is within the list, where it is one
  place_below : (xs : List X) (i : ℕ) → position p xs ≡ Some i → (i < length xs) × (position_or_len p xs ≡ i)
  place_below xs i is =
      elim (cases_Bool (nat_lt (position_or_len p xs) (length xs))) [
        | inl below ↦
            let same : position_or_len p xs ≡ i = let h = rw below at is in cc h in
            let within : position_or_len p xs < length xs = grind (arith, nat_tests) in
            (omega arith, same)
        | inr past ↦ absurd (let h = rw past at is in cc h)
      ]

  place_past : (xs : List X) → position p xs ≡ None → length xs ≤ position_or_len p xs
  place_past xs is =
      elim (cases_Bool (nat_lt (position_or_len p xs) (length xs))) [
        | inl below ↦ absurd (let h = rw below at is in cc h)
        | inr past ↦ grind (arith, nat_tests)
      ]

  -- what is found stands at the first place
  there : (xs : List X) (d : X) → position_or_len p xs < length xs → find p xs ≡ Some (get_or xs (position_or_len p xs) d)
  there [] d below = absurd (omega arith)
  there (x ∷ xs) d below =
      elim (cases_Bool (p x)) [
        | inl passes ↦ rw passes refl
        | inr fails ↦
            let rest : position_or_len p xs < length xs = let h = rw (fails, after_one) at below in omega (arith, h) in
            rw (fails, after_one) (there xs d rest)
      ]

  nowhere : (xs : List X) → length xs ≤ position_or_len p xs → find p xs ≡ None
  nowhere [] past = refl
  nowhere (x ∷ xs) past =
      elim (cases_Bool (p x)) [
        | inl passes ↦ absurd (let h = rw passes at past in omega (arith, h))
        | inr fails ↦
            let rest : length xs ≤ position_or_len p xs = let h = rw (fails, after_one) at past in omega (arith, h) in
            rw fails (nowhere xs rest)
      ]

  pub found_below : (xs : List X) (i : ℕ) → position p xs ≡ Some i → i < length xs
  found_below xs i is = (place_below xs i is).0

  pub found_at : (xs : List X) (i : ℕ) (d : X) → position p xs ≡ Some i → find p xs ≡ Some (get_or xs i d)
  found_at xs i d is =
      let place = place_below xs i is in
      let below : position_or_len p xs < length xs = omega (arith, place.0, place.1) in
      there xs d below ∙ ap (λ (k : ℕ). Some (get_or xs k d)) place.1

  pub found_slot : (xs : List X) (i : ℕ) → position p xs ≡ Some i → find p xs ≡ slice_get xs i
  found_slot xs i is = find_at p xs ∙ ap (slice_get xs) (place_below xs i is).1

  pub found_nowhere : (xs : List X) → position p xs ≡ None → find p xs ≡ None
  found_nowhere xs is = nowhere xs (place_past xs is)

  -- one more, which passes first
  pushed_first : (xs : List X) (y : X) → length xs ≤ position_or_len p xs → p y ≡ true → position_or_len p (xs ++ y ∷ []) ≡ length xs
  pushed_first [] y past passes = rw passes refl
  pushed_first (x ∷ xs) y past passes =
      elim (cases_Bool (p x)) [
        | inl passes_there ↦ absurd (let h = rw passes_there at past in omega (arith, h))
        | inr fails ↦
            let rest : length xs ≤ position_or_len p xs = let h = rw (fails, after_one) at past in omega (arith, h) in
            rw (fails, after_one) (ap suc (pushed_first xs y rest passes))
      ]

  -- one more, which fails
  pushed_past : (xs : List X) (y : X) → length xs ≤ position_or_len p xs → p y ≡ false → length xs + 1 ≤ position_or_len p (xs ++ y ∷ [])
  pushed_past [] y past fails = rw fails (omega arith)
  pushed_past (x ∷ xs) y past fails =
      elim (cases_Bool (p x)) [
        | inl passes_there ↦ absurd (let h = rw passes_there at past in omega (arith, h))
        | inr fails_there ↦
            let rest : length xs ≤ position_or_len p xs = let h = rw (fails_there, after_one) at past in omega (arith, h) in
            let more : length xs + 1 ≤ position_or_len p (xs ++ y ∷ []) = pushed_past xs y rest fails in
            rw (fails_there, after_one) (omega (arith, more))
      ]

  -- one more changes nothing where one passes
  pushed_there : (xs : List X) (y : X) → position_or_len p xs < length xs → position_or_len p (xs ++ y ∷ []) ≡ position_or_len p xs
  pushed_there [] y below = absurd (omega arith)
  pushed_there (x ∷ xs) y below =
      elim (cases_Bool (p x)) [
        | inl passes ↦ rw passes refl
        | inr fails ↦
            let rest : position_or_len p xs < length xs = let h = rw (fails, after_one) at below in omega (arith, h) in
            rw fails (ap (λ (n : ℕ). 1 + n) (pushed_there xs y rest))
      ]

  is_at : (xs : List X) (k : ℕ) → position_or_len p xs ≡ k → k < length xs → position p xs ≡ Some k
  is_at xs k same below =
      let within : nat_lt (position_or_len p xs) (length xs) ≡ true = grind (arith, nat_tests) in
      rw within (ap Some same)

  is_nowhere : (xs : List X) → length xs ≤ position_or_len p xs → position p xs ≡ None
  is_nowhere xs past =
      let beyond : nat_lt (position_or_len p xs) (length xs) ≡ false = grind (arith, nat_tests) in
      rw beyond refl

  pub pushed_new : (xs : List X) (y : X) → position p xs ≡ None → p y ≡ true → position p (xs ++ y ∷ []) ≡ Some (length xs)
  pushed_new xs y is passes =
      is_at (xs ++ y ∷ []) (length xs) (pushed_first xs y (place_past xs is) passes) (omega (arith, length-append {A = X}))

  pushed_by : (xs : List X) (y : X) → p y ≡ false → (o : Option ℕ) → position p xs ≡ o → position p (xs ++ y ∷ []) ≡ o
  pushed_by xs y fails None is =
      is_nowhere (xs ++ y ∷ []) (let more : length xs + 1 ≤ position_or_len p (xs ++ y ∷ []) = pushed_past xs y (place_past xs is) fails in omega (arith, length-append {A = X}))
  pushed_by xs y fails (Some i) is =
      let place = place_below xs i is in
      let below : position_or_len p xs < length xs = omega (arith, place.0, place.1) in
      is_at (xs ++ y ∷ []) i (pushed_there xs y below ∙ place.1) (omega (arith, place.0, length-append {A = X}))

  pub pushed_other : (xs : List X) (y : X) → p y ≡ false → position p (xs ++ y ∷ []) ≡ position p xs
  pushed_other xs y fails = pushed_by xs y fails (position p xs) refl

  -- some is found where some passes
  found_by : (xs : List X) (o : Option ℕ) → position p xs ≡ o → is_some (find p xs) ≡ is_some o
  found_by xs None is = ap is_some (found_nowhere xs is)
  found_by xs (Some i) is = some_there xs (find p xs) i is refl where
    some_there : (xs : List X) (o : Option X) (i : ℕ) → position p xs ≡ Some i → find p xs ≡ o → is_some o ≡ true
    some_there [] o i is found = absurd cc
    some_there (x ∷ xs) o i is found = ap is_some (sym found) ∙ ap is_some (found_at (x ∷ xs) i x is)

  pub found_same : (xs : List X) → is_some (find p xs) ≡ is_some (position p xs)
  found_same xs = found_by xs (position p xs) refl
