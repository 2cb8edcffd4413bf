-- Rows, each made by a call that is given its number, or its key, and a watch.
use Rattle.std.specs.Prelude.{◌≡◌, ℕ, ◌<◌, List, Vec, replicate, Option, Some, None, slice_index_or, slice_set}
use Rattle.std.specs.List.{All, AllZip, fold, range_with_len}
use denote.Ref.{Bor}

-- a call on these terms may be made for each number below the count, with any watch
abbrev pub TakesRows : {W : Type 0} → ℕ → (ℕ → Bor W → Type 0) → Type 0
TakesRows {W} count may_call = (i : ℕ) (watch : Bor W) → i < count → may_call i watch

-- The row is what may be answered for the number, with some watch.
pub record IsMade {W T : Type 0} (may_answer : ℕ → Bor W → T → Type 0) (i : ℕ) (row : T) : Type 0 where
  pub watch : Bor W
  pub answered : may_answer i watch row

-- there is a row for each number below the count, in their order
abbrev pub AreMade : {W T : Type 0} → (ℕ → Bor W → T → Type 0) → ℕ → List T → Type 0
AreMade may_answer count rows = AllZip (IsMade may_answer) (range_with_len 0 count) rows

-- a call on these terms may be made for the key, with any watch
abbrev pub TakesKey : {K W : Type 0} → (Bor K → Bor W → Type 0) → K → Type 0
TakesKey {K} {W} may_call key = (lent : Bor K) (watch : Bor W) → lent.now ≡ key → may_call lent watch

-- a call may be made for each of these keys
abbrev pub TakesKeys : {K W : Type 0} → List K → (Bor K → Bor W → Type 0) → Type 0
TakesKeys keys may_call = All (TakesKey may_call) keys

-- The row is what may be answered for the key, with some watch.
pub record IsMadeOf {K W T : Type 0} (may_answer : Bor K → Bor W → T → Type 0) (key : K) (row : T) : Type 0 where
  pub lent : Bor K
  pub key_is : lent.now ≡ key
  pub watch : Bor W
  pub answered : may_answer lent watch row

-- there is a row for each key, in their order
abbrev pub AreMadeOf : {K W T : Type 0} → (Bor K → Bor W → T → Type 0) → List K → List T → Type 0
AreMadeOf may_answer keys rows = AllZip (IsMadeOf may_answer) keys rows

-- PRIVATE
-- the row is what may be answered for the key at that place
abbrev pub IsMadeAt : {K W T : Type 0} → (Bor K → Bor W → T → Type 0) → List K → ℕ → T → Type 0
IsMadeAt {K} may_answer keys i row = (d : K) → IsMadeOf may_answer (slice_index_or keys i d) row

-- each pair of a number and a row is right
abbrev pub AreRightPairs : {T : Type 0} → (ℕ → T → Type 0) → List (ℕ × T) → Type 0
AreRightPairs is_right pairs = All (λ pair. is_right pair.0 pair.1) pairs

-- each pair of each thread is
abbrev pub AreRightShares : {T Z : Type 0} → (ℕ → T → Type 0) → List (Vec (ℕ × T) Z) → Type 0
AreRightShares is_right shares = All (λ share. AreRightPairs is_right share.items) shares

-- each row that is in its place is right
abbrev pub AreRightPlaces : {T : Type 0} → (ℕ → T → Type 0) → List (Option T) → Type 0
AreRightPlaces {T} is_right places = (i : ℕ) (row : T) → slice_index_or places i None ≡ Some row → is_right i row

-- the places once a row is put in that of its number, if there is that place
abbrev pub with_row : {T : Type 0} → List (Option T) → ℕ × T → List (Option T)
with_row places pair = slice_set places pair.0 (Some pair.1)

-- and once each of some rows is
abbrev pub with_rows : {T : Type 0} → List (Option T) → List (ℕ × T) → List (Option T)
with_rows places pairs = fold with_row places pairs

-- so many places, with the rows of all threads
abbrev pub places_of : {T Z : Type 0} → ℕ → List (Vec (ℕ × T) Z) → List (Option T)
places_of count shares = fold (λ places share. with_rows places share.items) (replicate count None) shares
