-- The table of a budget.
use Rattle.std.specs.Prelude.{ℕ, ◌+◌, ◌-◌, nat_le, nat_lt, Bool, true, false, ◌||◌, if◌then◌else◌, List, [], ◌∷◌, ◌++◌, map, Option, Some, None, codes}
use Rattle.convoy_scenario.specs.Naming.{sender_word}
use Rattle.convoy_scenario.specs.Scenario.{Scenario, group_name_at, message_at}
use Rattle.convoy_tables.specs.Tables.{Cell, Table, nothing, number, word}
use Rattle.convoy_survey.specs.declared.times.Times.{Times}
use Rattle.convoy_survey.specs.Times.{count_cell, time_cell, unit_cell, where_told}
use Rattle.convoy_budget.specs.declared.kinds.Budget.{Budget}
use Rattle.convoy_budget.specs.declared.kinds.Room.{Room}
use Rattle.convoy_budget.specs.declared.kinds.Room.TheVariants.{Any, Until, AtLeast, Never, Unknown, OutOfMemory}

-- ROOMS
-- the breadth that is known to keep the deadline, where that is neither any nor none
abbrev pub breadth_kept : Room → Option ℕ
breadth_kept Any = None
breadth_kept (Until breadth) = Some breadth
breadth_kept (AtLeast breadth) = Some breadth
breadth_kept Never = None
breadth_kept Unknown = None
breadth_kept OutOfMemory = None

-- not all is known that is asked
abbrev pub is_open : Room → Bool
is_open Any = false
is_open (Until breadth) = false
is_open (AtLeast breadth) = true
is_open Never = false
is_open Unknown = true
is_open OutOfMemory = false

-- memory ran out
abbrev pub is_fault : Room → Bool
is_fault Any = false
is_fault (Until breadth) = false
is_fault (AtLeast breadth) = false
is_fault Never = false
is_fault Unknown = false
is_fault OutOfMemory = true

-- a range of that breadth is wider than the deadline allows
abbrev pub is_beyond : ℕ → Room → Bool
is_beyond today Any = false
is_beyond today (Until breadth) = nat_lt breadth today
is_beyond today (AtLeast breadth) = false
is_beyond today Never = true
is_beyond today Unknown = false
is_beyond today OutOfMemory = false

-- ROWS
abbrev pub is_row_open : Budget → Bool
is_row_open row = is_open row.later || is_open row.earlier

abbrev pub is_row_fault : Budget → Bool
is_row_fault row = is_fault row.later || is_fault row.earlier

-- the range as it is is wider than the deadline allows
abbrev pub is_row_beyond : Budget → Bool
is_row_beyond row = is_beyond (row.most - row.least) row.later || is_beyond (row.most - row.least) row.earlier

-- the words for what is known: of a fault those of its line
abbrev pub answer_word : Budget → List ℕ
answer_word row =
    if is_row_fault row then codes "fault 11 out of memory"
    else if is_row_open row then codes "open"
    else codes "exact"

-- the greatest most that keeps the deadline
abbrev pub most_until : Budget → Option ℕ
most_until row = from (breadth_kept row.later) where
  from : Option ℕ → Option ℕ
  from None = None
  from (Some breadth) = Some (row.least + breadth)

-- the least least that keeps it
abbrev pub least_from : Budget → Option ℕ
least_from row = from (breadth_kept row.earlier) where
  from : Option ℕ → Option ℕ
  from None = None
  from (Some breadth) = Some (row.most - breadth)

-- how much more that is than the most is, unless it is less
abbrev pub left_over : Budget → Option ℕ
left_over row = from (most_until row) where
  from : Option ℕ → Option ℕ
  from None = None
  from (Some until) = if nat_le row.most until then Some (until - row.most) else None

-- CELLS
-- the end of a range that is known to keep the deadline, or whether any does, or none
abbrev pub limit_cell : Room → Option ℕ → Cell
limit_cell Any limit = word (codes "any")
limit_cell (Until breadth) limit = count_cell limit
limit_cell (AtLeast breadth) limit = count_cell limit
limit_cell Never limit = word (codes "none")
limit_cell Unknown limit = nothing
limit_cell OutOfMemory limit = nothing

-- the target, the two ends of the way, and what is known
abbrev pub name_cells : Scenario → Budget → List Cell
name_cells scenario row =
    word (message_at scenario row.target.message).name ∷ word (group_name_at scenario row.target.group)
    ∷ word (sender_word scenario row.way.sender) ∷ word (group_name_at scenario row.way.to)
    ∷ word (answer_word row) ∷ []

-- the range, and its limits, in ticks
abbrev pub tick_cells : Budget → List Cell
tick_cells row =
    number row.least ∷ number row.most ∷ limit_cell row.later (most_until row) ∷ count_cell (left_over row)
    ∷ limit_cell row.earlier (least_from row) ∷ []

-- the most, its limit and what is left as times, and their unit
abbrev pub time_cells : Times → Budget → List Cell
time_cells times row =
    time_cell times.measure (Some row.most) ∷ time_cell times.measure (most_until row) ∷ time_cell times.measure (left_over row)
    ∷ unit_cell times.measure ∷ []

-- the cells of a row
unfoldable pub row_cells : Times → Scenario → Budget → List Cell
row_cells times scenario row = name_cells scenario row ++ (tick_cells row ++ where_told times (time_cells times row))

-- COLUMNS
abbrev pub tick_columns : List Cell
tick_columns =
    word (codes "message") ∷ word (codes "group") ∷ word (codes "from") ∷ word (codes "to") ∷ word (codes "answer")
    ∷ word (codes "least") ∷ word (codes "most") ∷ word (codes "most_until") ∷ word (codes "left") ∷ word (codes "least_from") ∷ []

abbrev pub time_columns : List Cell
time_columns = word (codes "most_time") ∷ word (codes "most_until_time") ∷ word (codes "left_time") ∷ word (codes "unit") ∷ []

-- the names of the columns
unfoldable pub columns_of : Times → List Cell
columns_of times = tick_columns ++ where_told times time_columns

-- THE TABLE
-- of these rows of the scenario
abbrev pub table_of : Times → Scenario → List Budget → Table
table_of times scenario rows = record { columns = columns_of times; rows = map (row_cells times scenario) rows }
