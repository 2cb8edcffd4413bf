-- The table of the ceilings of kinds.
use Rattle.std.specs.Prelude.{◌≡◌, ℕ, Bool, true, List, [], ◌∷◌, ◌++◌, map, is_some, Option, Some, None, if◌then◌else◌, codes, Result, Ok, Err}
use Rattle.std.specs.List.{flat_map}
use Rattle.convoy_draft.specs.declared.duration.TimeUnit.{TimeUnit}
use Rattle.convoy_draft.specs.Durations.{unit_word}
use Rattle.convoy_lines.specs.Texts.{spaced}
use Rattle.convoy_scenario.specs.Naming.{sender_word}
use Rattle.convoy_scenario.specs.Scenario.{Scenario, group_name_at, message_at}
use Rattle.convoy_tables.specs.declared.format.Format.{Format}
use Rattle.convoy_tables.specs.declared.format.Format.TheVariants.{Text, Csv, Json, Html}
use Rattle.convoy_tables.specs.Formats.{table_text}
use Rattle.convoy_tables.specs.Tables.{Cell, Table, nothing, number, numeral, word}
use Rattle.convoy_times.specs.declared.measure.Measure.{Measure}
use Rattle.convoy_times.specs.Measures.{measure_by, told_ticks}
use Rattle.convoy_kinds.specs.declared.ceiling_row.CeilingRow.{CeilingRow}
use Rattle.convoy_kinds.specs.declared.fault.KindsFault.{KindsFault}
use Rattle.convoy_kinds.specs.Ceilings.{AreCeilingRows}
use Rattle.convoy_kinds.specs.Kinds.{IsKinds, Kinds, all_kinds, kind_name}
use Rattle.convoy_kinds.specs.Reading.{kinds_of_text}

-- a table in this format has columns of times: as CSV and as JSON in any case, in text and in HTML where there is a measure
abbrev pub has_times : Format → Option Measure → Bool
has_times Text measure = is_some measure
has_times Csv measure = true
has_times Json measure = true
has_times Html measure = is_some measure

-- the names of groups, with a space between them
abbrev pub names_text : Scenario → List ℕ → List ℕ
names_text setting [] = []
names_text setting (g ∷ gs) = group_name_at setting g ++ flat_map (λ h. spaced (group_name_at setting h)) gs

-- a kind: the name of its table, who sends a message of it, and where it goes
abbrev pub kind_cells : Kinds → ℕ → List Cell
kind_cells kinds k =
    word (kind_name kinds k) ∷ word (sender_word kinds.setting (message_at (all_kinds kinds) k).sender)
    ∷ word (names_text kinds.setting (message_at (all_kinds kinds) k).destinations) ∷ []

-- ticks in the unit of the measure; nothing where there is no measure
abbrev pub ticks_cell : Option Measure → ℕ → Cell
ticks_cell None ticks = nothing
ticks_cell (Some measure) ticks = numeral (told_ticks measure ticks)

-- the unit of the measure, where there is one
abbrev pub unit_cell : Option Measure → Cell
unit_cell None = nothing
unit_cell (Some measure) = word (unit_word measure.unit)

-- ticks as a time, and its unit
abbrev pub time_cells : Option Measure → ℕ → List Cell
time_cells measure ticks = ticks_cell measure ticks ∷ unit_cell measure ∷ []

-- cells that a row has where the table has columns of times
abbrev pub where_told : Bool → List Cell → List Cell
where_told told cells = if told then cells else []

-- the names of the columns
abbrev pub kind_columns : Bool → List Cell
kind_columns told =
    word (codes "kind") ∷ word (codes "from") ∷ word (codes "to") ∷ word (codes "group") ∷ word (codes "ceiling") ∷ []
    ++ (where_told told (word (codes "ceiling_time") ∷ word (codes "unit") ∷ [])
    ++ (word (codes "rival") ∷ word (codes "rival_from") ∷ word (codes "rival_to") ∷ []))

-- the cells of a row
abbrev pub row_cells : Bool → Option Measure → Kinds → CeilingRow → List Cell
row_cells told measure kinds row =
    kind_cells kinds row.kind
    ++ (word (group_name_at kinds.setting row.group) ∷ number row.ceiling ∷ []
    ++ (where_told told (time_cells measure row.ceiling) ++ kind_cells kinds row.rival))

-- the table of these rows
abbrev pub table_of_kinds : Bool → Option Measure → Kinds → List CeilingRow → Table
table_of_kinds told measure kinds rows = record {
  columns = kind_columns told;
  rows = map (row_cells told measure kinds) rows;
}

-- how the times of the kinds are told, where this unit is asked for
abbrev pub measure_of_kinds : Option TimeUnit → Kinds → Option Measure
measure_of_kinds unit kinds = measure_by unit kinds.unit kinds.setting

-- THE HEADLINE. What is written is the table, in this format and with times in this unit where it is asked for, of the ceilings of all kinds that the text gives.
pub record IsKindTable (format : Format) (unit : Option TimeUnit) (text out : List ℕ) : Type 0 where
  pub kinds : Kinds
  pub read : kinds_of_text text ≡ Ok kinds
  pub lawful : IsKinds kinds
  pub rows : List CeilingRow
  pub told : AreCeilingRows kinds rows
  pub written : out
      ≡ table_text format (table_of_kinds (has_times format (measure_of_kinds unit kinds)) (measure_of_kinds unit kinds) kinds rows)

-- what may be answered for a text where the ceilings of its kinds are asked for
abbrev pub KindsSay : Format → Option TimeUnit → List ℕ → Result (List ℕ) KindsFault → Type 0
KindsSay format unit text (Ok out) = IsKindTable format unit text out
KindsSay format unit text (Err fault) = kinds_of_text text ≡ Err fault
