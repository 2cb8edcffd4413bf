-- Kinds of messages: who sends one, and where it goes. There may be many more of them than a scenario has messages.
use Rattle.std.specs.Prelude.{ℕ, ◌<◌, ◌≤◌, List, [], length, map, slice_index_or, Option, All, IsTrue}
use Rattle.std.specs.List.{IsDistinct}
use Rattle.std.specs.List.Sorted.{IsStrictlyIncreasing}
use Rattle.std.specs.Str.{bytes_eq}
use Rattle.convoy_draft.specs.declared.duration.TimeUnit.{TimeUnit}
use Rattle.convoy_draft.specs.Names.{is_name}
use Rattle.convoy_scenario.specs.declared.sender.Sender.{Sender}
use Rattle.convoy_scenario.specs.declared.sender.Sender.TheVariants.{Client}
use Rattle.convoy_scenario.specs.Scenario.{Message, Scenario}
use Rattle.convoy_scenario.specs.WellFormed.{IsScenario, IsSender}
use Rattle.convoy_kinds.specs.declared.limits.TheConstants.{MOST_KINDS, MOST_TABLES}

-- a kind: the table that writes it, who sends a message of the kind, and the groups that it goes to
pub record Kind : Type 0 where
  pub table : ℕ
  pub sender : Sender
  pub destinations : List ℕ

-- kinds of messages: a scenario that has the time, the ticks, D, the groups, the places of clients and the links that they share, and the unit in which D is written, where it is a duration; the names of their tables; and the kinds
pub record Kinds : Type 0 where
  pub setting : Scenario
  pub unit : Option TimeUnit
  pub tables : List (List ℕ)
  pub kinds : List Kind

-- what stands for a kind past the last one: it goes to no group
abbrev pub no_kind : Kind
no_kind = record { table = 0; sender = Client 0; destinations = [] }

-- the kind of that number
abbrev pub kind_at : Kinds → ℕ → Kind
kind_at kinds k = slice_index_or kinds.kinds k no_kind

-- the name of the table that writes the kind of that number
abbrev pub kind_name : Kinds → ℕ → List ℕ
kind_name kinds k = slice_index_or kinds.tables (kind_at kinds k).table []

-- a message of the kind under a name, issued at tick 0
abbrev pub named : List ℕ → Kind → Message
named name kind = record { name = name; sender = kind.sender; destinations = kind.destinations; at = 0; longest_wait = 0 }

-- one message of each kind, by the numbers of the kinds: more than a scenario may have, and without names
abbrev pub all_kinds : Kinds → Scenario
all_kinds kinds = record kinds.setting { multicasts = map (named []) kinds.kinds; target_message = 0; target_group = 0 }

-- a kind of one of so many tables, among so many groups and places: it goes to one or more of them, each once, in the order of their numbers
pub record IsKind (tables groups places : ℕ) (kind : Kind) : Type 0 where
  pub table : kind.table < tables
  pub sender : IsSender groups places kind.sender
  pub destinations : 0 < length kind.destinations
  pub ascending : IsStrictlyIncreasing kind.destinations
  pub known : All (λ g. g < groups) kind.destinations

-- what holds of all kinds of a text: the limits hold, and the names of the tables are names and differ
pub record IsKinds (kinds : Kinds) : Type 0 where
  pub setting : IsScenario kinds.setting
  pub tables_low : 1 ≤ length kinds.tables
  pub tables_high : length kinds.tables ≤ MOST_TABLES
  pub names : All (λ name. IsTrue (is_name name)) kinds.tables
  pub names_differ : IsDistinct bytes_eq kinds.tables
  pub kinds_low : 1 ≤ length kinds.kinds
  pub kinds_high : length kinds.kinds ≤ MOST_KINDS
  pub known : All (IsKind (length kinds.tables) (length kinds.setting.groups) (length kinds.setting.places)) kinds.kinds

-- that holds of them if there are as many as there may be
abbrev pub IsKindsIfCounted : Kinds → Type 0
IsKindsIfCounted kinds = 1 ≤ length kinds.kinds → length kinds.kinds ≤ MOST_KINDS → IsKinds kinds
