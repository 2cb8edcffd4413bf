-- The table of a sweep.
use Rattle.std.specs.Prelude.{ℕ, Bool, true, false, List, [], ◌∷◌, ◌++◌, map, Option, Some, None, is_some, codes}
use Rattle.convoy_draft.specs.declared.fault.Key.TheVariants as words
use Rattle.convoy_scenario.specs.Scenario.{Scenario}
use Rattle.convoy_tables.specs.Tables.{Cell, Table, number, word}
use Rattle.convoy_survey.specs.declared.times.Times.{Times}
use Rattle.convoy_survey.specs.Cells.{finding_cells, finding_columns}
use Rattle.convoy_survey.specs.Findings.{least_of, most_of}
use Rattle.convoy_survey.specs.Judgements.{verdict_cells, verdict_columns}
use Rattle.convoy_survey.specs.Times.{time_cell, where_told}
use Rattle.convoy_sweep.specs.Keys.{dotted, key_name}
use Rattle.convoy_sweep.specs.declared.kinds.Given.{Given}
use Rattle.convoy_sweep.specs.declared.kinds.Setting.{Setting}
use Rattle.convoy_sweep.specs.declared.kinds.Sweep.{Sweep}
use Rattle.convoy_sweep.specs.declared.kinds.SweepKey.{SweepKey}
use Rattle.convoy_sweep.specs.declared.kinds.SweepKey.TheVariants.{Delay, At, Until, Least, Most}
use Rattle.convoy_sweep.specs.declared.kinds.Swept.{Swept}

-- KEYS
-- the words for the end of the windows that a key is given: for the last time of issue of that message
abbrev pub last_name : SweepKey → List ℕ
last_name Delay = []
last_name (At name) = dotted name words.Until
last_name (Until name) = []
last_name (Least name) = []
last_name (Most name) = []

-- COLUMNS
-- the names of the columns for a number of ticks, and where times are told for the same as a time
abbrev pub value_columns : Times → List ℕ → List Cell
value_columns times name = word name ∷ where_told times (word (name ++ codes "_time") ∷ [])

-- the names of the columns for what a key is given
abbrev pub key_columns : Bool → Times → SweepKey → List Cell
key_columns false times key = value_columns times (key_name key)
key_columns true times key = value_columns times (key_name key) ++ value_columns times (last_name key)

-- the same for a second key, if there is one
abbrev pub second_columns : Bool → Times → Option Setting → List Cell
second_columns envelope times None = []
second_columns envelope times (Some setting) = key_columns envelope times setting.key

-- the names of the columns: those of the keys, and then those of a survey
abbrev pub columns_of : Bool → Times → Option ℕ → Sweep → List Cell
columns_of envelope times deadline sweep =
    key_columns envelope times sweep.first.key
    ++ (second_columns envelope times sweep.second ++ (finding_columns times ++ verdict_columns (is_some deadline) times))

-- ROWS
-- a number of ticks, and where times are told the same as a time
abbrev pub value_cells : Times → ℕ → List Cell
value_cells times ticks = number ticks ∷ where_told times (time_cell times.measure (Some ticks) ∷ [])

-- the end of a window, if it is one
abbrev pub last_cells : Times → Option ℕ → List Cell
last_cells times None = []
last_cells times (Some ticks) = value_cells times ticks

-- what a key is given
abbrev pub given_cells : Times → Given → List Cell
given_cells times given = value_cells times given.value ++ last_cells times given.last

-- what a second key is given, if there is one
abbrev pub second_cells : Times → Option Given → List Cell
second_cells times None = []
second_cells times (Some given) = given_cells times given

-- the cells of a row, by the deadline of the target: messages are named as in the scenario of the text
abbrev pub row_cells : Times → Option ℕ → Scenario → Swept → List Cell
row_cells times deadline scenario row =
    given_cells times row.point.first
    ++ (second_cells times row.point.second
    ++ (finding_cells times scenario row.finding ++ verdict_cells (is_some deadline) times deadline (least_of row.finding) (most_of row.finding)))

-- THE TABLE
-- of these rows, by the deadline of the target
abbrev pub table_of : Bool → Times → Option ℕ → Sweep → Scenario → List Swept → Table
table_of envelope times deadline sweep scenario rows =
    record { columns = columns_of envelope times deadline sweep; rows = map (row_cells times deadline scenario) rows }
