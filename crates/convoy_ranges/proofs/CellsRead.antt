-- What a read of a line as a record gives.
use Rattle.std.proofs.Common.{◌≡◌, ℕ, zero, suc, true, false, List, [], ◌∷◌, get_or, Option, Some, None, refl}
use Rattle.std.specs.Prelude.{unwrap_or}
use Rattle.csv.specs.Machine.{Read, next_record}
use Rattle.csv.specs.Reading.{NextIs, ReadRecord, ReadsNext, source_of}
use Rattle.csv.specs.Records.{field_at}
use Rattle.csv.specs.declared.parser.Config.{Config}
use Rattle.csv.specs.declared.parser.State.{State}
use Rattle.csv.specs.declared.parser.State.TheVariants.{StartRecord}
use Rattle.csv.specs.declared.reader.Reader.{Reader}
use Rattle.convoy_ranges.specs.Tables.{fields_in}

-- the fields of the record that was found
found_is : (next : Option Read) (fields : List (List ℕ)) (s : State) (rest : List ℕ) → NextIs next true fields s rest → fields ≡ fields_in next
found_is None fields s rest h = absurd cc
found_is (Some p) fields s rest h = h.1

-- where none was found there are none
none_is : (next : Option Read) (fields : List (List ℕ)) (s : State) (rest : List ℕ) → NextIs next false fields s rest → fields_in next ≡ []
none_is None fields s rest h = refl
none_is (Some p) fields s rest h = absurd (let e : false ≡ true = h.0 in cc)

next_found : (cfg : Config) (xs : List ℕ) (rest : Option (List ℕ)) (fields : List (List ℕ)) (s : State) → ReadsNext cfg StartRecord (Some xs) rest true fields s → fields ≡ fields_in (next_record cfg StartRecord [] [] xs)
next_found cfg xs None fields s h = absurd h
next_found cfg xs (Some ys) fields s h = found_is (next_record cfg StartRecord [] [] xs) fields s ys h

next_none : (cfg : Config) (xs : List ℕ) (rest : Option (List ℕ)) (fields : List (List ℕ)) (s : State) → ReadsNext cfg StartRecord (Some xs) rest false fields s → fields_in (next_record cfg StartRecord [] [] xs) ≡ []
next_none cfg xs None fields s h = absurd h
next_none cfg xs (Some ys) fields s h = none_is (next_record cfg StartRecord [] [] xs) fields s ys h

-- a read of known bytes from their start
pub read_found : {R : Type 0} (rem : R → Option (List ℕ)) (a b : Reader R) (cfg : Config) (xs : List ℕ) (fields : List (List ℕ))
    → a.config ≡ cfg → a.state ≡ StartRecord → source_of rem a ≡ Some xs → ReadRecord rem a b true fields
    → fields ≡ fields_in (next_record cfg StartRecord [] [] xs)
read_found rem a b cfg xs fields config state source h = next_found cfg xs _ fields _ (rw (config, state, source) at h.0)

pub read_none : {R : Type 0} (rem : R → Option (List ℕ)) (a b : Reader R) (cfg : Config) (xs : List ℕ) (fields : List (List ℕ))
    → a.config ≡ cfg → a.state ≡ StartRecord → source_of rem a ≡ Some xs → ReadRecord rem a b false fields
    → fields_in (next_record cfg StartRecord [] [] xs) ≡ []
read_none rem a b cfg xs fields config state source h = next_none cfg xs _ fields _ (rw (config, state, source) at h.0)

-- the field at a place
pub field_there : (fields : List (List ℕ)) (i : ℕ) → get_or fields i [] ≡ unwrap_or (field_at fields i) []
unfolding field_at
field_there [] i = refl
field_there (f ∷ fs) zero = refl
field_there (f ∷ fs) (suc i) = field_there fs i
