-- What contracts see of a board, of a hand and of a note.
use Rattle.std.specs.Prelude.{◌≡◌, ℕ, ◌≤◌, ◌⊎◌, min, List, [], Option, Some, None}
use Rattle.std.specs.List.{All, Contains}
use Rattle.atomic_table.specs.Seated.{TableId}
use Rattle.boxcar.specs.Table.{Shelves, Where, Shows}
use Rattle.convoy_scenario.specs.Scenario.{Scenario}
use Rattle.convoy_sim.specs.Record.{Record}
use Rattle.convoy_incumbent.specs.declared.rule.Pair.{Pair}
use Rattle.convoy_incumbent.specs.declared.rule.Store.{Store}

-- which board it is, the table of its records, and their scenario
pub record BoardId : Type 0 where
  pub table : TableId
  pub records : Shelves
  pub scenario : Scenario

-- the board with that word and that store
abbrev pub board_of : TableId → Store → BoardId
board_of table store = record { table = table; records = store.records; scenario = store.scenario.value }

-- a hand: its board, the greatest latency that it has seen, the pairs that it put, and its share
pub record Holding : Type 0 where
  pub board : BoardId
  pub seen : ℕ
  pub pairs : List Pair
  pub share : ℕ

-- the number of places that a word can name
abbrev pub places : ℕ
places = 4294967296

-- the last place that a word can name
abbrev pub last_place : ℕ
last_place = 4294967295

-- the note is of a record that lies in this board's table
abbrev pub IsNoteOf : BoardId → Where Record → Type 0
IsNoteOf board note = Shows board.records note × (note.value.scenario ≡ board.scenario)

-- the pair that a note puts: the place of its record, or the last one that a word can name where it is past that
abbrev pub pair_of : Where Record → Pair
pair_of note = record { latency = note.value.latency; place = min note.index last_place }

-- no pair has a greater latency
abbrev pub NoneAbove : ℕ → List Pair → Type 0
NoneAbove latency pairs = All (λ pair. pair.latency ≤ latency) pairs

-- the greatest latency of the pairs: one has it, and none has a greater one
abbrev pub IsGreatestOf : ℕ → List Pair → Type 0
IsGreatestOf latency pairs = NoneAbove latency pairs × ((place : ℕ) × Contains pairs record { latency = latency; place = place })

-- the note of the greater latency of two, where there are any
abbrev pub IsBetterOf : Option (Where Record) → Option (Where Record) → Option (Where Record) → Type 0
IsBetterOf None second better = better ≡ second
IsBetterOf (Some first) None better = better ≡ Some first
IsBetterOf (Some first) (Some second) better = ((better ≡ Some first) × (second.value.latency ≤ first.value.latency)) ⊎ ((better ≡ Some second) × (first.value.latency ≤ second.value.latency))

-- the note of the greatest of the pairs, where there are any
abbrev pub IsBest : BoardId → List Pair → Option (Where Record) → Type 0
IsBest board pairs None = pairs ≡ []
IsBest board pairs (Some note) = IsNoteOf board note × Contains pairs (pair_of note) × NoneAbove note.value.latency pairs
