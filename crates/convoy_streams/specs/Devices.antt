-- What a call of a device answers, and what the calls of a run answer together.
use Rattle.std.specs.Prelude.{ℕ, Bool, true, false, List, [], ◌∷◌, take, count_by, Result, Ok, Err}
use Rattle.std.specs.List.{FoldsTo, flat_map}

-- the bytes that the call moved, or that the device failed
pub data Answer : Type 0 where
  Moved : List ℕ → Answer
  Failed : Answer

-- A read answers the front of its buffer, as many bytes as it says. None are the end of the input.
abbrev pub read_answer : {E : Type 0} → List ℕ → Result ℕ E → Answer
read_answer buffer (Ok count) = Moved (take count buffer)
read_answer buffer (Err e) = Failed

-- bytes that a write moved; to move none is a failure
abbrev pub moved_or_failed : List ℕ → Answer
moved_or_failed [] = Failed
moved_or_failed (byte ∷ bytes) = Moved (byte ∷ bytes)

-- A write answers the front of what it was offered, as many bytes as it says.
abbrev pub write_answer : {E : Type 0} → List ℕ → Result ℕ E → Answer
write_answer offered (Ok count) = moved_or_failed (take count offered)
write_answer offered (Err e) = Failed

-- the bytes of an answer
abbrev pub bytes_of : Answer → List ℕ
bytes_of (Moved bytes) = bytes
bytes_of Failed = []

-- the bytes of all answers, one after another
abbrev pub joined : List Answer → List ℕ
joined answers = flat_map bytes_of answers

-- the answer moved bytes, at least one
abbrev pub IsPiece : Answer → Type 0
IsPiece (Moved (byte ∷ bytes)) = Unit {0}
IsPiece (Moved []) = ⊥
IsPiece Failed = ⊥

abbrev pub is_failure : Answer → Bool
is_failure (Moved bytes) = false
is_failure Failed = true

-- how often the device failed
abbrev pub failures : List Answer → ℕ
failures answers = count_by is_failure answers

-- There is a run of calls from the old state to the new one, and this holds of their answers.
pub record HasRun {S : Type 0} (step : S → Answer → S → Type 0) (old new : S)
    (Says : List Answer → Type 0) : Type 0 where
  pub answers : List Answer
  pub calls : FoldsTo step old answers new
  pub says : Says answers
