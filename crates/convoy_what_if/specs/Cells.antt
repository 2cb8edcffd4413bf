-- The table of the changes that were tried.
use Rattle.std.specs.Prelude.{ℕ, ◌==◌, Bool, true, false, not, ◌&&◌, List, [], ◌∷◌, ◌++◌, filter, length, Option, Some, None, is_some, codes, decimal, if◌then◌else◌}
use Rattle.std.specs.List.{flat_map}
use Rattle.convoy_scenario.specs.Naming.{sender_word}
use Rattle.convoy_scenario.specs.Scenario.{Scenario, group_name_at}
use Rattle.convoy_tables.specs.Tables.{Cell, Table, nothing, word}
use Rattle.convoy_survey.specs.declared.finding.Finding.{Finding}
use Rattle.convoy_survey.specs.declared.finding.Finding.TheVariants.{Greatest, Open, OutOfMemory}
use Rattle.convoy_survey.specs.declared.times.Times.{Times}
use Rattle.convoy_survey.specs.Cells.{answer_cells, finding_columns, name_cell, node_cells, tick_cells, time_cells}
use Rattle.convoy_survey.specs.Findings.{least_of, most_of}
use Rattle.convoy_survey.specs.Judgements.{verdict_cells, verdict_columns}
use Rattle.convoy_what_if.specs.declared.kinds.Change.{Change}
use Rattle.convoy_what_if.specs.declared.kinds.Change.TheVariants.{Nothing, Without, AtLeast, AtMost}
use Rattle.convoy_what_if.specs.declared.tried.Tried.{Tried}

-- THE ROW OF A CHANGE
-- the word for what is changed
abbrev pub change_word : Change → List ℕ
change_word Nothing = codes "nothing"
change_word (Without m) = codes "without"
change_word (AtLeast sender to) = codes "least"
change_word (AtMost sender to) = codes "most"

-- the message that is left out, if one is
abbrev pub left_out : Change → Option ℕ
left_out Nothing = None
left_out (Without m) = Some m
left_out (AtLeast sender to) = None
left_out (AtMost sender to) = None

-- the two ends of the link that is narrowed, if one is
abbrev pub link_cells : Scenario → Change → List Cell
link_cells scenario Nothing = nothing ∷ nothing ∷ []
link_cells scenario (Without m) = nothing ∷ nothing ∷ []
link_cells scenario (AtLeast sender to) = word (sender_word scenario sender) ∷ word (group_name_at scenario to) ∷ []
link_cells scenario (AtMost sender to) = word (sender_word scenario sender) ∷ word (group_name_at scenario to) ∷ []

-- the cells that tell a change of the scenario
abbrev pub change_cells : Scenario → Change → List Cell
change_cells scenario change =
    (word (change_word change) ∷ name_cell scenario (left_out change) ∷ []) ++ link_cells scenario change

-- a name, where there is one
abbrev pub text_cell : Option (List ℕ) → Cell
text_cell None = nothing
text_cell (Some name) = word name

-- what is known, and its numbers in ticks and as times
abbrev pub number_cells : Times → Finding → List Cell
number_cells times finding = answer_cells finding ++ (tick_cells finding ++ time_cells times finding)

-- how what was found keeps the deadline of the target, where this has one
abbrev pub judged_cells : Times → Option ℕ → Finding → List Cell
judged_cells times deadline finding = verdict_cells (is_some deadline) times deadline (least_of finding) (most_of finding)

-- the cells of a row: the change by the names of the scenario, what was found, and how that keeps the deadline
abbrev pub row_cells : Times → Option ℕ → Scenario → Tried → List Cell
row_cells times deadline scenario row =
    change_cells scenario row.change ++ (number_cells times row.finding
    ++ (text_cell row.rival ∷ text_cell row.tied ∷ (node_cells row.finding ++ judged_cells times deadline row.finding)))

-- CHANGES THAT CHANGE NOTHING
abbrev pub is_nothing : Change → Bool
is_nothing Nothing = true
is_nothing (Without m) = false
is_nothing (AtLeast sender to) = false
is_nothing (AtMost sender to) = false

-- the greatest latency, where it was found
abbrev pub latency_of : Finding → Option ℕ
latency_of (Greatest latency cause nodes) = Some latency
latency_of (Open least most cause) = None
latency_of OutOfMemory = None

-- the greatest latency of the scenario as it is, where the row of no change tells it
abbrev pub unchanged_latency : List Tried → Option ℕ
unchanged_latency [] = None
unchanged_latency (row ∷ rows) = if is_nothing row.change then latency_of row.finding else unchanged_latency rows

-- both are known, and the same
abbrev pub is_same : Option ℕ → Option ℕ → Bool
is_same None other = false
is_same (Some n) None = false
is_same (Some n) (Some other) = n == other

-- the row is that of a change which leaves the greatest latency as it is, at this number
abbrev pub leaves_latency : Option ℕ → Tried → Bool
leaves_latency unchanged row = not (is_nothing row.change) && is_same (latency_of row.finding) unchanged

-- the words for so many other changes
abbrev pub others_words : ℕ → List ℕ
others_words count = decimal count ++ (if count == 1 then codes " other" else codes " others")

-- the cells of the line that stands for so many other changes, which leave what was found with no change as it is
abbrev pub others_cells : Times → Option ℕ → ℕ → Finding → List Cell
others_cells times deadline count finding =
    word (others_words count) ∷ nothing ∷ nothing ∷ nothing
    ∷ (number_cells times finding ++ nothing ∷ nothing ∷ nothing ∷ judged_cells times deadline finding)

-- that line, if there is any of them
abbrev pub others_lines : Times → Option ℕ → ℕ → Finding → List (List Cell)
others_lines times deadline count finding = if count == 0 then [] else others_cells times deadline count finding ∷ []

-- the lines for a row, where those that leave the latency at this number are folded, so many of them: of no change its cells, and below them the line for the others; of such a row none; of each else its cells
abbrev pub row_lines : Times → Option ℕ → Scenario → Option ℕ → ℕ → Tried → List (List Cell)
row_lines times deadline scenario unchanged count row =
    if is_nothing row.change then row_cells times deadline scenario row ∷ others_lines times deadline count row.finding
    else if leaves_latency unchanged row then [] else row_cells times deadline scenario row ∷ []

-- the number at which those that leave it are folded: none where all rows are asked for
abbrev pub folded_latency : Bool → List Tried → Option ℕ
folded_latency shows_all rows = if shows_all then None else unchanged_latency rows

-- THE TABLE
abbrev pub change_columns : List Cell
change_columns = word (codes "change") ∷ word (codes "message") ∷ word (codes "from") ∷ word (codes "to") ∷ []

-- the names of the columns
abbrev pub columns_of : Times → Option ℕ → List Cell
columns_of times deadline = change_columns ++ (finding_columns times ++ verdict_columns (is_some deadline) times)

-- the lines for these rows, where those that leave the latency at this number are folded
abbrev pub lines_of : Times → Option ℕ → Scenario → Option ℕ → List Tried → List (List Cell)
lines_of times deadline scenario unchanged rows =
    flat_map (row_lines times deadline scenario unchanged (length (filter (leaves_latency unchanged) rows))) rows

-- the table of these rows, by the deadline of the target: all of them, or without those that change nothing
abbrev pub table_of : Times → Option ℕ → Bool → Scenario → List Tried → Table
table_of times deadline shows_all scenario rows = record {
  columns = columns_of times deadline;
  rows = lines_of times deadline scenario (folded_latency shows_all rows) rows;
}
