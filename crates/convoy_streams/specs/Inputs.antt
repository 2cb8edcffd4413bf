-- What is read.
use Rattle.std.specs.Prelude.{ℕ, List, Option, Some, None, Result, Ok, Err}
use Rattle.std.specs.declared.io.Error.{Error}
use Rattle.convoy_streams.specs.declared.input.InputReader.{InputReader}
use Rattle.convoy_streams.specs.declared.input.InputReader.TheVariants as readers

-- The input of that name, or standard input where there is none. `opens` says what a call that opens the file of a
-- name may answer: the file, or why there is none.
abbrev pub IsInput : {F : Type 0} → (List ℕ → Result F Error → Type 0) → Option (List ℕ) → InputReader F → Type 0
IsInput opens None (readers.Standard stdin) = Unit {0}
IsInput opens (Some name) (readers.File file) = opens name (Ok file)
IsInput opens (Some name) (readers.Unopened error) = opens name (Err error)
IsInput opens name reader = ⊥

-- the bytes that are left of an input, where its file knows them
abbrev pub left_of : {F : Type 0} → (F → Option (List ℕ)) → InputReader F → Option (List ℕ)
left_of left_in (readers.File file) = left_in file
left_of left_in reader = None
