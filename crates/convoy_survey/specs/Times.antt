-- How a table tells numbers that may not be known, and times.
use Rattle.std.specs.Prelude.{ℕ, true, List, [], ◌∷◌, Option, Some, None, is_some, if◌then◌else◌}
use Rattle.convoy_draft.specs.Durations.{unit_word}
use Rattle.convoy_times.specs.declared.measure.Measure.{Measure}
use Rattle.convoy_times.specs.Measures.{told_ticks}
use Rattle.convoy_tables.specs.declared.format.Format.{Format}
use Rattle.convoy_tables.specs.declared.format.Format.TheVariants.{Text, Csv, Json, Html}
use Rattle.convoy_tables.specs.Tables.{Cell, nothing, number, numeral, word}
use Rattle.convoy_survey.specs.declared.times.Times.{Times}

-- a number that may not be known
abbrev pub count_cell : Option ℕ → Cell
count_cell None = nothing
count_cell (Some n) = number n

-- the times of a table in this format: as CSV and as JSON it has columns of times in any case, in text and in HTML where there is a measure
abbrev pub times_of : Format → Option Measure → Times
times_of Text measure = record { are_told = is_some measure; measure = measure }
times_of Csv measure = record { are_told = true; measure = measure }
times_of Json measure = record { are_told = true; measure = measure }
times_of Html measure = record { are_told = is_some measure; measure = measure }

-- cells that a row has where times are told
abbrev pub where_told : Times → List Cell → List Cell
where_told times cells = if times.are_told then cells else []

-- ticks in the unit of the measure; nothing where one of them is not known
abbrev pub time_cell : Option Measure → Option ℕ → Cell
time_cell None ticks = nothing
time_cell (Some measure) None = nothing
time_cell (Some measure) (Some n) = numeral (told_ticks measure n)

-- the unit of the measure, where there is one
abbrev pub unit_cell : Option Measure → Cell
unit_cell None = nothing
unit_cell (Some measure) = word (unit_word measure.unit)

-- two numbers of ticks as times, and their unit, where times are told
abbrev pub time_pair : Times → Option ℕ → Option ℕ → List Cell
time_pair times one other =
    where_told times (time_cell times.measure one ∷ time_cell times.measure other ∷ unit_cell times.measure ∷ [])
