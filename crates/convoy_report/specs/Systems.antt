-- The tables that tell what a system is: its messages, and the ways on which packets travel.
use Rattle.std.specs.Prelude.{ℕ, List, [], ◌∷◌, ◌++◌, map, Option, Some, codes}
use Rattle.convoy_scenario.specs.Scenario.{Message, Scenario, group_name_at, message_at, message_numbers, range_between, window_of}
use Rattle.convoy_scenario.specs.Naming.{sender_word}
use Rattle.convoy_tables.specs.Formats.{joined}
use Rattle.convoy_tables.specs.Tables.{Cell, Table, number, word}
use Rattle.convoy_commands.specs.Verdicts.{deadline_at}
use Rattle.convoy_survey.specs.declared.times.Times.{Times}
use Rattle.convoy_survey.specs.Times.{count_cell, time_cell, time_pair, where_told}
use Rattle.convoy_budget.specs.declared.kinds.Way.{Way}

-- MESSAGES
-- the names of the groups that a message goes to
abbrev pub destinations_text : Scenario → ℕ → List ℕ
destinations_text scenario m = joined (codes ", ") (λ i g. group_name_at scenario g) (message_at scenario m).destinations

abbrev pub message_columns : Times → List Cell
message_columns times =
    map word (codes "message" ∷ codes "from" ∷ codes "to" ∷ codes "issued" ∷ codes "until" ∷ codes "within" ∷ [])
    ++ where_told times (map word (codes "issued_time" ∷ codes "until_time" ∷ codes "unit" ∷ codes "within_time" ∷ []))

-- the times of a message: when it is issued, from when to when, and its deadline
abbrev pub message_times : Times → Message → Option ℕ → List Cell
message_times times message deadline =
    time_pair times (Some message.at) (Some (window_of message).1) ++ where_told times (time_cell times.measure deadline ∷ [])

-- from when to when a message is issued, and its deadline, in ticks and as times
abbrev pub issue_cells : Times → Message → Option ℕ → List Cell
issue_cells times message deadline =
    number message.at ∷ number (window_of message).1 ∷ count_cell deadline ∷ message_times times message deadline

-- the cells of a message
abbrev pub message_cells : Times → List (Option ℕ) → Scenario → ℕ → List Cell
message_cells times deadlines scenario m =
    word (message_at scenario m).name ∷ word (sender_word scenario (message_at scenario m).sender) ∷ word (destinations_text scenario m)
    ∷ issue_cells times (message_at scenario m) (deadline_at deadlines m)

-- the table of all messages
abbrev pub message_table : Times → List (Option ℕ) → Scenario → Table
message_table times deadlines scenario = record {
  columns = message_columns times;
  rows = map (message_cells times deadlines scenario) (message_numbers scenario);
}

-- WAYS
abbrev pub way_columns : Times → List Cell
way_columns times =
    map word (codes "from" ∷ codes "to" ∷ codes "least" ∷ codes "most" ∷ [])
    ++ where_told times (map word (codes "least_time" ∷ codes "most_time" ∷ codes "unit" ∷ []))

-- the cells of a range
abbrev pub range_cells : Times → ℕ × ℕ → List Cell
range_cells times range = number range.0 ∷ number range.1 ∷ time_pair times (Some range.0) (Some range.1)

-- the cells of a way
abbrev pub way_cells : Times → Scenario → Way → List Cell
way_cells times scenario way =
    word (sender_word scenario way.sender) ∷ word (group_name_at scenario way.to)
    ∷ range_cells times (range_between scenario way.sender way.to)

-- the table of ways
abbrev pub way_table : Times → Scenario → List Way → Table
way_table times scenario ways = record { columns = way_columns times; rows = map (way_cells times scenario) ways }
