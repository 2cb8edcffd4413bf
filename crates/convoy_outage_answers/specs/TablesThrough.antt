-- The table of a survey where outages are asked for: it has one number more in each row.
use Rattle.std.specs.Prelude.{ℕ, ◌==◌, Bool, List, [], ◌∷◌, ◌++◌, filter, map, Option, codes}
use Rattle.std.specs.List.{flat_map}
use Rattle.convoy_scenario.specs.Scenario.{Scenario, message_numbers}
use Rattle.convoy_ceiling.specs.Ceiling.{ceiling_at}
use Rattle.convoy_tables.specs.Tables.{Cell, Table, word}
use Rattle.convoy_survey.specs.declared.times.Times.{Times}
use Rattle.convoy_survey.specs.AtAll.{at_all, ceiling_at_all, greatest_known, least_at_all}
use Rattle.convoy_survey.specs.Cells.{at_all_target_cells, ceiling_cells_if, ceiling_columns_if, finding_cells, finding_columns, known_cells, target_cells, target_columns}
use Rattle.convoy_survey.specs.Findings.{least_of}
use Rattle.convoy_survey.specs.Judgements.{judged_cells, judged_columns}
use Rattle.convoy_survey.specs.Times.{count_cell, time_cell, where_told}
use Rattle.convoy_outage_answers.specs.declared.row_through.RowThrough.{RowThrough}
use Rattle.convoy_outage_answers.specs.RowsThrough.{surveyed_of}

-- the names of the columns of a latency through outages
abbrev pub through_columns : Times → List Cell
through_columns times = word (codes "outage_latency") ∷ where_told times (word (codes "outage_latency_time") ∷ [])

-- a latency through outages that may not be known, in ticks and as a time
abbrev pub through_cells : Times → Option ℕ → List Cell
through_cells times through = count_cell through ∷ where_told times (time_cell times.measure through ∷ [])

-- the cells of a row: those of a survey, with its latency through outages right after what was found, by which the row is judged
abbrev pub cells_through : Bool → Times → List (Option ℕ) → Scenario → RowThrough → List Cell
cells_through with_ceilings times deadlines scenario row =
    target_cells scenario row.surveyed.message row.surveyed.group
    ++ (finding_cells times scenario row.surveyed.finding
    ++ (through_cells times row.through
    ++ (judged_cells deadlines times row.surveyed.message (least_of row.surveyed.finding) row.through
    ++ ceiling_cells_if with_ceilings times (ceiling_at scenario row.surveyed.message row.surveyed.group))))

-- the greatest of the latencies of some rows through outages, where all of them are known
abbrev pub through_at_all : List RowThrough → Option ℕ
through_at_all rows = greatest_known (map (λ row. row.through) rows)

-- the cells of the row of a message at all its groups, of which these are its rows
abbrev pub at_all_cells_through : Bool → Times → List (Option ℕ) → Scenario → ℕ → List RowThrough → List Cell
at_all_cells_through with_ceilings times deadlines scenario m rows =
    at_all_target_cells scenario m
    ++ (known_cells times scenario (at_all (surveyed_of rows))
    ++ (through_cells times (through_at_all rows)
    ++ (judged_cells deadlines times m (least_at_all (surveyed_of rows)) (through_at_all rows)
    ++ ceiling_cells_if with_ceilings times (ceiling_at_all scenario (surveyed_of rows)))))

-- the rows of a message
abbrev pub rows_through_of : ℕ → List RowThrough → List RowThrough
rows_through_of m rows = filter (λ row. row.surveyed.message == m) rows

-- the rows of the table for the rows of a message, if it has any: each of them, and below them the message at all its groups
abbrev pub lines_through : Bool → Times → List (Option ℕ) → Scenario → List RowThrough → List (List Cell)
lines_through with_ceilings times deadlines scenario [] = []
lines_through with_ceilings times deadlines scenario (row ∷ rows) =
    map (cells_through with_ceilings times deadlines scenario) (row ∷ rows)
    ++ at_all_cells_through with_ceilings times deadlines scenario row.surveyed.message (row ∷ rows) ∷ []

-- the names of the columns
abbrev pub columns_through : Bool → Times → List (Option ℕ) → List Cell
columns_through with_ceilings times deadlines =
    target_columns ++ (finding_columns times ++ (through_columns times ++ (judged_columns deadlines times ++ ceiling_columns_if with_ceilings times)))

-- the table of these rows, those of one message after those of another, by the deadlines of the messages
abbrev pub table_through : Bool → Times → List (Option ℕ) → Scenario → List RowThrough → Table
table_through with_ceilings times deadlines scenario rows = record {
  columns = columns_through with_ceilings times deadlines;
  rows = flat_map (λ m. lines_through with_ceilings times deadlines scenario (rows_through_of m rows)) (message_numbers scenario);
}
