-- The table of a survey.
use Rattle.std.specs.Prelude.{ℕ, Bool, true, false, List, [], ◌∷◌, ◌++◌, map, Option, Some, None, codes}
use Rattle.std.specs.List.{flat_map}
use Rattle.convoy_scenario.specs.Scenario.{Scenario, group_name_at, message_at, message_numbers}
use Rattle.convoy_ceiling.specs.Ceiling.{ceiling_at}
use Rattle.convoy_tables.specs.Tables.{Cell, Table, nothing, number, word}
use Rattle.convoy_survey.specs.declared.at_all.AtAll.{AtAll}
use Rattle.convoy_survey.specs.declared.finding.Cause.{Cause}
use Rattle.convoy_survey.specs.declared.finding.Finding.{Finding}
use Rattle.convoy_survey.specs.declared.finding.Surveyed.{Surveyed}
use Rattle.convoy_survey.specs.declared.times.Times.{Times}
use Rattle.convoy_survey.specs.AtAll.{answer_at_all, at_all, ceiling_at_all, least_at_all, most_at_all, rows_of}
use Rattle.convoy_survey.specs.Findings.{answer_word, cause_of, least_of, most_of, nodes_of, rival_in, tied_in}
use Rattle.convoy_survey.specs.Judgements.{judged_cells, judged_columns}
use Rattle.convoy_survey.specs.Times.{count_cell, time_cell, time_pair, where_told}

-- the name of a message that there may not be
abbrev pub name_cell : Scenario → Option ℕ → Cell
name_cell scenario None = nothing
name_cell scenario (Some m) = word (message_at scenario m).name

abbrev pub message_cell : Scenario → ℕ → Cell
message_cell scenario m = word (message_at scenario m).name

-- the message and the group
abbrev pub target_cells : Scenario → ℕ → ℕ → List Cell
target_cells scenario m g = message_cell scenario m ∷ word (group_name_at scenario g) ∷ []

-- the message at all the groups that it goes to
abbrev pub at_all_target_cells : Scenario → ℕ → List Cell
at_all_target_cells scenario m = message_cell scenario m ∷ word (codes "*") ∷ []

-- WHAT WAS FOUND
-- what is known
abbrev pub answer_cells : Finding → List Cell
answer_cells finding = word (answer_word finding) ∷ []

-- the least and the most that the greatest latency may be, in ticks
abbrev pub tick_cells : Finding → List Cell
tick_cells finding = count_cell (least_of finding) ∷ count_cell (most_of finding) ∷ []

-- the same as times, and their unit, where times are told
abbrev pub time_cells : Times → Finding → List Cell
time_cells times finding = time_pair times (least_of finding) (most_of finding)

-- the message that holds the target back, and the one after which it gets its stamp in a tie
abbrev pub rival_cells : Scenario → Option Cause → List Cell
rival_cells scenario cause = name_cell scenario (rival_in cause) ∷ name_cell scenario (tied_in cause) ∷ []

-- how many nodes show what was found
abbrev pub node_cells : Finding → List Cell
node_cells finding = count_cell (nodes_of finding) ∷ []

-- why it is so late, and how many nodes show it
abbrev pub cause_cells : Scenario → Finding → List Cell
cause_cells scenario finding = rival_cells scenario (cause_of finding) ++ node_cells finding

-- the cells that tell what was found, where messages are those of the scenario
abbrev pub finding_cells : Times → Scenario → Finding → List Cell
finding_cells times scenario finding =
    answer_cells finding ++ (tick_cells finding ++ (time_cells times finding ++ cause_cells scenario finding))

-- the cells that tell what is known of a message at all its groups: no nodes show it
abbrev pub known_cells : Times → Scenario → AtAll → List Cell
known_cells times scenario known =
    word (answer_at_all known.least known.most) ∷ count_cell known.least ∷ count_cell known.most
    ∷ (time_pair times known.least known.most ++ (rival_cells scenario known.cause ++ nothing ∷ []))

-- ROWS
-- a ceiling that stands beside what was found, in ticks and as a time
abbrev pub beside_cells : Times → ℕ → List Cell
beside_cells times ceiling = number ceiling ∷ where_told times (time_cell times.measure (Some ceiling) ∷ [])

-- the same where ceilings are asked for
abbrev pub ceiling_cells_if : Bool → Times → ℕ → List Cell
ceiling_cells_if false times ceiling = []
ceiling_cells_if true times ceiling = beside_cells times ceiling

-- the cells of a row, whatever was found: with the verdict on it by the deadline of its message where there are deadlines, and the ceiling of its message at its group where ceilings are asked for
abbrev pub cells_of : Bool → Times → List (Option ℕ) → Scenario → Surveyed → List Cell
cells_of with_ceilings times deadlines scenario row =
    target_cells scenario row.message row.group
    ++ (finding_cells times scenario row.finding
    ++ (judged_cells deadlines times row.message (least_of row.finding) (most_of row.finding)
    ++ ceiling_cells_if with_ceilings times (ceiling_at scenario row.message row.group)))

-- the cells of the row of a message at all its groups, of which these are its rows
abbrev pub at_all_cells : Bool → Times → List (Option ℕ) → Scenario → ℕ → List Surveyed → List Cell
at_all_cells with_ceilings times deadlines scenario m rows =
    at_all_target_cells scenario m
    ++ (known_cells times scenario (at_all rows)
    ++ (judged_cells deadlines times m (least_at_all rows) (most_at_all rows)
    ++ ceiling_cells_if with_ceilings times (ceiling_at_all scenario rows)))

-- the rows of the table for the rows of a message, if it has any: each of them, and below them the message at all its groups
abbrev pub message_lines : Bool → Times → List (Option ℕ) → Scenario → List Surveyed → List (List Cell)
message_lines with_ceilings times deadlines scenario [] = []
message_lines with_ceilings times deadlines scenario (row ∷ rows) =
    map (cells_of with_ceilings times deadlines scenario) (row ∷ rows)
    ++ at_all_cells with_ceilings times deadlines scenario row.message (row ∷ rows) ∷ []

-- COLUMNS
abbrev pub target_columns : List Cell
target_columns = word (codes "message") ∷ word (codes "group") ∷ []

abbrev pub answer_columns : List Cell
answer_columns = word (codes "answer") ∷ word (codes "least") ∷ word (codes "most") ∷ []

-- the names of the columns of times, where times are told
abbrev pub time_columns : Times → List Cell
time_columns times = where_told times (word (codes "least_time") ∷ word (codes "most_time") ∷ word (codes "unit") ∷ [])

abbrev pub cause_columns : List Cell
cause_columns = word (codes "rival") ∷ word (codes "tied") ∷ word (codes "nodes") ∷ []

-- the names of the columns that tell what was found
abbrev pub finding_columns : Times → List Cell
finding_columns times = answer_columns ++ (time_columns times ++ cause_columns)

-- the names of the columns of a ceiling that stands beside what was found
abbrev pub beside_columns : Times → List Cell
beside_columns times = word (codes "ceiling") ∷ where_told times (word (codes "ceiling_time") ∷ [])

-- the same where ceilings are asked for
abbrev pub ceiling_columns_if : Bool → Times → List Cell
ceiling_columns_if false times = []
ceiling_columns_if true times = beside_columns times

-- the names of the columns
abbrev pub columns_of : Bool → Times → List (Option ℕ) → List Cell
columns_of with_ceilings times deadlines =
    target_columns ++ (finding_columns times ++ (judged_columns deadlines times ++ ceiling_columns_if with_ceilings times))

-- THE TABLE
-- of these rows, those of one message after those of another, by the deadlines of the messages
abbrev pub table_of : Bool → Times → List (Option ℕ) → Scenario → List Surveyed → Table
table_of with_ceilings times deadlines scenario rows = record {
  columns = columns_of with_ceilings times deadlines;
  rows = flat_map (λ m. message_lines with_ceilings times deadlines scenario (rows_of m rows)) (message_numbers scenario);
}
