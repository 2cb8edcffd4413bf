-- What a kinds text has beside what a scenario text has too, key by key: what is written there, or the first key that is at fault.
use Rattle.std.specs.Borrow.{Bor}
use Rattle.std.specs.BTreeMap.{BTreeMap}
use Rattle.std.specs.Prelude.{Vec, String, map, ℕ, ℤ, Bool, true, ◌&&◌, if◌then◌else◌, List, [], ◌∷◌, Option, Some, None, option_map, option_and_then, ok_or, codes, Result, Ok, Err}
use Rattle.std.specs.declared.alloc.Global.{Global}
use Rattle.std.specs.List.{list_any}
use Rattle.std.specs.Result.{result_map_both}
use Rattle.std.specs.Str.{bytes_eq}
use Rattle.toml.specs.Data.{Data, Members, no_members, member, get_member, as_str, as_integer, as_array, as_table}
use Rattle.toml.specs.View.{table_view}
use Rattle.toml.specs.declared.value.Value.{Value}
use Rattle.convoy_lines.specs.Results.{◌>>=◌}
use Rattle.convoy_draft.specs.declared.fault.Key.TheVariants.{From, Name, To, Unknown}
use Rattle.convoy_draft.specs.declared.fault.ScenarioFault.{ScenarioFault}
use Rattle.convoy_draft.specs.declared.fault.ScenarioFault.TheVariants as scenario
use Rattle.convoy_toml.specs.Shape.{WrittenScenario, all_of, as_names, need, setting_of_table, wish, wish_all}
use Rattle.convoy_kinds.specs.declared.fault.KindsFault.{KindsFault}
use Rattle.convoy_kinds.specs.declared.fault.KindsFault.TheVariants.{NotOneTo, Scenario, Shape}
use Rattle.convoy_kinds.specs.declared.fault.KindsKey.{KindsKey}
use Rattle.convoy_kinds.specs.declared.fault.KindsKey.TheVariants.{Kind, ToAny}

-- a table of kinds as it is written: its name; the groups and the places that send (none for clients of no named place); and the groups to all of which each message goes, or to how many each goes
pub record WrittenKind : Type 0 where
  pub name : List ℕ
  pub senders : Option (List (List ℕ))
  pub to : Option (List (List ℕ))
  pub sizes : Option (List ℤ)

-- a kinds text as it is written: what the kinds share, and their tables
pub record WrittenKinds : Type 0 where
  pub setting : WrittenScenario
  pub tables : List WrittenKind

-- the word for a key that only kinds texts have
abbrev pub kinds_word : KindsKey → List ℕ
kinds_word Kind = codes "kind"
kinds_word ToAny = codes "to_any"

-- a fault of the scenario is one of the kinds
abbrev pub of_scenario : {A : Type 0} → Result A ScenarioFault → Result A KindsFault
of_scenario result = result_map_both (λ value. value) Scenario result

-- the numbers in an array
abbrev pub as_sizes : Data → Option (List ℤ)
as_sizes value = option_and_then (all_of as_integer) (as_array value)

-- the numbers at the key for how many groups, where it is there
abbrev pub sizes_of_table : Members → Result (Option (List ℤ)) KindsFault
sizes_of_table table = if_there (get_member (kinds_word ToAny) table) where
  if_there : Option Data → Result (Option (List ℤ)) KindsFault
  if_there None = Ok None
  if_there (Some d) = ok_or (option_map Some (as_sizes d)) (Shape ToAny)

-- just one of the two has to be there
abbrev pub need_one_to : Option (List (List ℕ)) → Option (List ℤ) → Result (Unit {0}) KindsFault
need_one_to (Some to) None = Ok tt
need_one_to None (Some sizes) = Ok tt
need_one_to (Some to) (Some sizes) = Err NotOneTo
need_one_to None None = Err NotOneTo

-- each key of the table is one of these words
abbrev pub has_only : List (List ℕ) → Members → Bool
has_only words no_members = true
has_only words (member word d rest) = list_any (λ known. bytes_eq known word) words && has_only words rest

-- an unknown key is a fault
abbrev pub need_only : List (List ℕ) → Members → Result (Unit {0}) KindsFault
need_only words table = if has_only words table then Ok tt else Err (Scenario (scenario.Shape Unknown))

-- the words for the keys of a table of kinds, and of the whole text
abbrev pub kind_words : List (List ℕ)
kind_words = codes "name" ∷ codes "from" ∷ codes "to" ∷ codes "to_any" ∷ []

abbrev pub text_words : List (List ℕ)
text_words = codes "time" ∷ codes "tick" ∷ codes "delay" ∷ codes "least" ∷ codes "groups" ∷ codes "places" ∷ codes "link" ∷ codes "group" ∷ codes "kind" ∷ []

-- a table of kinds
abbrev pub kind_of_table : Members → Result WrittenKind KindsFault
kind_of_table table = do
  name ← of_scenario (need Name as_str table)
  senders ← of_scenario (wish From as_names table)
  to ← of_scenario (wish_all To as_str table)
  sizes ← sizes_of_table table
  _ ← need_one_to to sizes
  _ ← need_only kind_words table
  Ok (record { name = name; senders = senders; to = to; sizes = sizes })

-- the tables of kinds, unless one is at fault
abbrev pub kinds_of_tables : List Members → Result (List WrittenKind) KindsFault
kinds_of_tables [] = Ok []
kinds_of_tables (table ∷ tables) = do
  kind ← kind_of_table table
  kinds ← kinds_of_tables tables
  Ok (kind ∷ kinds)

-- the tables at the key for kinds, as they stand in the text
abbrev pub kind_tables : Members → Result (List Members) KindsFault
kind_tables table = ok_or (option_and_then as_tables (get_member (kinds_word Kind) table)) (Shape Kind) where
  as_tables : Data → Option (List Members)
  as_tables value = option_and_then (all_of as_table) (as_array value)

-- what is written in the table of a text, which has no other key
abbrev pub written_of_table : Members → Result WrittenKinds KindsFault
written_of_table table = do
  setting ← of_scenario (setting_of_table table)
  tables ← kind_tables table
  kinds ← kinds_of_tables tables
  _ ← need_only text_words table
  Ok (record { setting = setting; tables = kinds })

-- how a call's answer is seen: a vector as the list that it holds
abbrev pub listed : {A E : Type 0} → Result (Vec A Global) E → Result (List A) E
listed (Ok xs) = Ok xs.items
listed (Err fault) = Err fault

-- a vector that may be absent as the list that it holds
abbrev pub listed_if_there : {A E : Type 0} → Result (Option (Vec A Global)) E → Result (Option (List A)) E
listed_if_there (Ok xs) = Ok (option_map (λ v. v.items) xs)
listed_if_there (Err fault) = Err fault

-- and a vector of tables as the list of their members
abbrev pub tables_listed : {E : Type 0} → Result (Vec (Bor (BTreeMap (String Global) Value)) Global) E → Result (List Members) E
tables_listed (Ok tables) = Ok (map (λ t. table_view t.now) tables.items)
tables_listed (Err fault) = Err fault
