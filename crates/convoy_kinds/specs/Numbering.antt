-- The kinds that are written, with numbers in place of names. Each word has a value whatever is written; only where all checks hold do they mean what they say.
use Rattle.std.specs.Prelude.{ℕ, ℤ, ◌+◌, ◌-◌, ◌/◌, ◌%◌, ◌^◌, ◌==◌, Bool, List, [], ◌∷◌, ◌++◌, length, map, filter, flat_map, Option, Some, None}
use Rattle.std.specs.List.{range_with_len}
use Rattle.convoy_draft.specs.declared.limits.TheConstants.{MOST_GROUPS}
use Rattle.convoy_draft.specs.Checks.{ticks}
use Rattle.convoy_scenario.specs.declared.sender.Sender.{Sender}
use Rattle.convoy_scenario.specs.declared.sender.Sender.TheVariants.{Client}
use Rattle.convoy_scenario.specs.Numbering.{numbers_of, sender_of}
use Rattle.convoy_kinds.specs.Kinds.{Kind}
use Rattle.convoy_kinds.specs.Shape.{WrittenKind}

-- the set of number i of n groups has group g: where the digits of i in base 2 are written one for each group, that of g is 0
abbrev pub is_in_set : ℕ → ℕ → ℕ → Bool
is_in_set n i g = (i / 2 ^ (n - 1 - g)) % 2 == 0

-- the set of number i of n groups: number 0 has all of them, and the last number none
abbrev pub set_of : ℕ → ℕ → List ℕ
set_of n i = filter (is_in_set n i) (range_with_len 0 n)

-- the sets of so many of n groups: those with the first group come first, and among these those with the second
abbrev pub sets_of_size : ℕ → ℕ → List (List ℕ)
sets_of_size n size = filter (λ set. length set == size) (map (set_of n) (range_with_len 0 (2 ^ n)))

-- the sets of groups to which the messages of a table go
abbrev pub sets_in : List (List ℕ) → WrittenKind → List (List ℕ)
sets_in groups table = by_names table.to where
  by_sizes : Option (List ℤ) → List (List ℕ)
  by_sizes None = []
  by_sizes (Some sizes) = flat_map (λ size. sets_of_size (length groups) (ticks MOST_GROUPS size)) sizes

  by_names : Option (List (List ℕ)) → List (List ℕ)
  by_names None = by_sizes table.sizes
  by_names (Some names) = numbers_of groups names ∷ []

-- who sends them: clients at no named place, or the groups and the places that are named
abbrev pub senders_in : List (List ℕ) → List (List ℕ) → Option (List (List ℕ)) → List Sender
senders_in groups places None = Client 0 ∷ []
senders_in groups places (Some names) = map (λ name. sender_of groups places (Some name)) names

-- the kinds of a table by its senders: one for each sender and each set
abbrev pub kinds_by : ℕ → List (List ℕ) → List Sender → List Kind
kinds_by t sets senders = flat_map (λ sender. map (λ set. record { table = t; sender = sender; destinations = set }) sets) senders

-- the kinds of the tables, of which the first has number t
abbrev pub kinds_from : ℕ → List (List ℕ) → List (List ℕ) → List WrittenKind → List Kind
kinds_from t groups places [] = []
kinds_from t groups places (table ∷ tables) = kinds_by t (sets_in groups table) (senders_in groups places table.senders) ++ kinds_from (t + 1) groups places tables

-- the names of the tables
abbrev pub table_names : List WrittenKind → List (List ℕ)
table_names tables = map (λ table. table.name) tables
