-- The table of a batch.
use Rattle.std.specs.Prelude.{ℕ, ◌-◌, List, [], ◌∷◌, ◌++◌, length, map, take, replicate, Bool, true, false, Option, Some, None, is_some, Result, Ok, Err, codes, decimal}
use Rattle.std.specs.List.{enumerate_from, list_any}
use Rattle.convoy_lines.specs.Texts.{line_of}
use Rattle.convoy_draft.specs.Durations.{count_of, unit_of, unit_word}
use Rattle.convoy_tables.specs.Tables.{Cell, Table, nothing, number, word}
use Rattle.convoy_commands.specs.declared.fault.Fault.{Fault}
use Rattle.convoy_commands.specs.Faults.{fault_line_of}
use Rattle.convoy_times.specs.declared.measure.Measure.{Measure}
use Rattle.convoy_outside.specs.Percents.{percent_of}
use Rattle.convoy_survey.specs.Cells.{answer_cells, answer_columns, cause_cells, cause_columns, tick_cells, time_cells, time_columns}
use Rattle.convoy_survey.specs.Findings.{least_of, most_of}
use Rattle.convoy_survey.specs.Judgements.{verdict_cells, verdict_columns}
use Rattle.convoy_survey.specs.declared.times.Times.{Times}
use Rattle.convoy_batches.specs.declared.job_row.JobFinding.{JobFinding}
use Rattle.convoy_batches.specs.declared.job_row.JobRow.{JobRow}

-- the label of a job, or nothing where the job has none
abbrev pub label_cell : List ℕ → Cell
label_cell [] = nothing
label_cell (first ∷ others) = word (first ∷ others)

-- the length of a tick in its unit, as `50 us`
abbrev pub tick_words : ℕ → List ℕ
tick_words tick = line_of (decimal (count_of tick)) (unit_word (unit_of tick) ∷ [])

-- the same, or nothing where it is not known
abbrev pub tick_cell : Option ℕ → Cell
tick_cell None = nothing
tick_cell (Some tick) = word (tick_words tick)

-- how a row tells times: in any case, so that the names of the columns are always the same
abbrev pub times_by : Option Measure → Times
times_by measure = record { are_told = true; measure = measure }

-- what a search found: its numbers in ticks and as times, and how long a tick is
abbrev pub searched_cells : JobFinding → List Cell
searched_cells found =
    answer_cells found.finding ++ (tick_cells found.finding ++ (time_cells (times_by found.measure) found.finding
    ++ (tick_cell found.instance.tick ∷ cause_cells found.instance found.finding)))

-- how that keeps the deadline of the target, in a table that is judged
abbrev pub verdict_cells_of : Bool → JobFinding → List Cell
verdict_cells_of judged found =
    verdict_cells judged (times_by found.measure) found.deadline (least_of found.finding) (most_of found.finding)

-- the words of a fault: its line without the byte that ends it
abbrev pub fault_words : Fault → List ℕ
fault_words fault = take (length (fault_line_of fault) - 1) (fault_line_of fault)

-- a fault in place of an answer, and nothing in the nine cells after it
abbrev pub fault_cells : Fault → List Cell
fault_cells fault = word (fault_words fault) ∷ replicate 9 nothing

-- what was found of a job, in a table that is judged or not: after a fault there is no verdict
abbrev pub found_cells : Bool → Result JobFinding Fault → List Cell
found_cells judged (Ok found) = searched_cells found ++ verdict_cells_of judged found
found_cells judged (Err fault) = fault_cells fault ++ verdict_cells judged (times_by None) None None None

-- in at most which share of runs a packet leaves its range, in per cent, or nothing where that is not known
abbrev pub outside_cell : Option ℕ → Cell
outside_cell None = nothing
outside_cell (Some billionths) = word (percent_of billionths ++ codes " %")

-- the same of the job of a row
abbrev pub outside_of_row : JobRow → Option ℕ
outside_of_row row = by_found row.found where
  by_found : Result JobFinding Fault → Option ℕ
  by_found (Ok found) = found.outside
  by_found (Err fault) = None

-- that cell, in a table that tells it
abbrev pub outside_cells : Bool → JobRow → List Cell
outside_cells false row = []
outside_cells true row = outside_cell (outside_of_row row) ∷ []

-- the name of its column
abbrev pub outside_columns : Bool → List Cell
outside_columns false = []
outside_columns true = word (codes "outside") ∷ []

-- the cells of the row of the job of that number, in a table that is judged or not, and tells how sure ranges are or not
abbrev pub cells_of : Bool → Bool → ℕ → JobRow → List Cell
cells_of judged sure n row =
    number n ∷ label_cell row.label.items ∷ (found_cells judged row.found ++ outside_cells sure row)

-- the names of the columns that tell what was found
abbrev pub found_columns : List Cell
found_columns =
    word (codes "job") ∷ word (codes "label")
    ∷ (answer_columns ++ (time_columns (times_by None) ++ (word (codes "tick") ∷ cause_columns)))

-- the names of all columns
abbrev pub column_names : Bool → Bool → List Cell
column_names judged sure = found_columns ++ (verdict_columns judged (times_by None) ++ outside_columns sure)

-- the target of a job has a deadline
abbrev pub has_deadline : JobRow → Bool
has_deadline row = by_found row.found where
  by_found : Result JobFinding Fault → Bool
  by_found (Ok found) = is_some found.deadline
  by_found (Err fault) = false

-- the links of a job tell how sure its ranges are
abbrev pub is_sure : JobRow → Bool
is_sure row = is_some (outside_of_row row)

-- the table of these rows, which are those of the jobs from 1 on, judged or not, and with or without how sure ranges are
abbrev pub table_with : Bool → Bool → List JobRow → Table
table_with judged sure rows =
    record { columns = column_names judged sure; rows = map (λ p. cells_of judged sure p.0 p.1) (enumerate_from 1 rows) }

-- the table of these rows: it is judged where one of them has a deadline for its target, and tells how sure ranges are where the links of one tell that
abbrev pub table_of : List JobRow → Table
table_of rows = table_with (list_any has_deadline rows) (list_any is_sure rows) rows
