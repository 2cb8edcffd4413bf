-- Traces of a scenario: what their lines tell, each event once, with times in ticks so fine that each is a whole number.
use Rattle.std.specs.Prelude.{ℕ, zero, suc, ◌+◌, ◌*◌, ◌/◌, ◌%◌, max, Bool, ◌==◌, nat_lt, if◌then◌else◌, List, [], ◌∷◌, ◌++◌, length, Option, Some, None, Result, Ok, Err}
use Rattle.std.specs.List.{list_all}
use Rattle.std.specs.Str.{is_utf8}
use Rattle.json.specs.Json.{Json, document}
use Rattle.convoy_lines.specs.Places.{lines_in}
use Rattle.convoy_lines.specs.Results.{◌>>=◌}
use Rattle.convoy_draft.specs.declared.limits.TheConstants.{GREATEST_DELAY}
use Rattle.convoy_ranges.specs.Tables.{cells_of, is_blank}
use Rattle.convoy_scenario.specs.Scenario.{Scenario}
use Rattle.convoy_traces.specs.declared.clock.Clock.{Clock}
use Rattle.convoy_traces.specs.declared.told.Entry.{Entry}
use Rattle.convoy_traces.specs.declared.told.Told.{Told}
use Rattle.convoy_traces.specs.declared.columns.Columns.{Columns}
use Rattle.convoy_traces.specs.declared.columns.Head.{Head}
use Rattle.convoy_traces.specs.declared.columns.Head.TheVariants.{Objects, Table}
use Rattle.convoy_traces.specs.declared.fault.Cause.{Cause}
use Rattle.convoy_traces.specs.declared.fault.Cause.TheVariants as causes
use Rattle.convoy_traces.specs.declared.fault.TraceFault.{TraceFault}
use Rattle.convoy_traces.specs.declared.fault.TraceFault.TheVariants.{Empty, Line, TooFine}
use Rattle.convoy_traces.specs.declared.fault.TheConstants.{LAST_TIME}
use Rattle.convoy_traces.specs.Told.{is_told}
use Rattle.convoy_traces.specs.Rows.{Row, head_of, row_of_cells, row_of_object}
use Rattle.convoy_traces.specs.Entries.{entry_of, found}

-- a cause as the fault of a line
abbrev pub in_line : {X : Type 0} → ℕ → Result X Cause → Result X TraceFault
in_line line (Ok x) = Ok x
in_line line (Err cause) = Err (Line line cause)

-- what the cells of a line tell, of which there are as many as in the first one
abbrev pub entry_in_cells : Scenario → Clock → Columns → ℕ → List (List ℕ) → Result Entry Cause
entry_in_cells scenario clock columns line cells =
    if length cells == columns.count then entry_of scenario clock line (row_of_cells columns cells) else Err causes.Cells

-- what an object tells
abbrev pub entry_in_object : Scenario → Clock → ℕ → Option Json → Result Entry Cause
entry_in_object scenario clock line None = Err causes.Object
entry_in_object scenario clock line (Some json) = entry_of scenario clock line (row_of_object json)

-- what a line of text tells
abbrev pub entry_by : Scenario → Clock → Head → ℕ → List ℕ → Result Entry Cause
entry_by scenario clock Objects line text = entry_in_object scenario clock line (document text)
entry_by scenario clock (Table columns) line text = entry_in_cells scenario clock columns line (cells_of text)

-- what a line tells, which is text
abbrev pub entry_in : Scenario → Clock → Head → ℕ → List ℕ → Result Entry Cause
entry_in scenario clock head line text = if is_utf8 text then entry_by scenario clock head line text else Err causes.Text

-- entries with one more, whose event none of them tells
abbrev pub with_entry : List Entry → Entry → Result (List Entry) TraceFault
with_entry entries one = if is_told entries one then Err (Line one.line causes.Twice) else Ok (entries ++ one ∷ [])

-- entries with what a line tells, which is nothing where nothing stands in its cells
abbrev pub with_line : Scenario → Clock → Head → ℕ → List Entry → List ℕ → Result (List Entry) TraceFault
with_line scenario clock head line entries text =
    if is_blank (cells_of text) then Ok entries
    else in_line line (entry_in scenario clock head line text) >>= with_entry entries

-- entries with what the lines tell
unfoldable pub rows_from : Scenario → Clock → Head → ℕ → List Entry → List (List ℕ) → Result (List Entry) TraceFault
rows_from scenario clock head line entries [] = Ok entries
rows_from scenario clock head line entries (text ∷ texts) =
    with_line scenario clock head line entries text >>= (λ more. rows_from scenario clock head (line + 1) more texts)

-- what is told by the first line, where it is an object, and by those below it
abbrev pub rows_below : Scenario → Clock → ℕ → List ℕ → List (List ℕ) → Head → Result (List Entry) TraceFault
rows_below scenario clock line text texts Objects = with_line scenario clock Objects line [] text >>= (λ more. rows_from scenario clock Objects (line + 1) more texts)
rows_below scenario clock line text texts (Table columns) = rows_from scenario clock (Table columns) (line + 1) [] texts

-- what lines tell, the first of which with something in its cells is the first one
unfoldable pub table_in : Scenario → Clock → ℕ → List (List ℕ) → Result (List Entry) TraceFault
table_in scenario clock line [] = Err Empty
table_in scenario clock line (text ∷ texts) =
    if is_blank (cells_of text) then table_in scenario clock (line + 1) texts
    else head_of line (cells_of text) >>= rows_below scenario clock line text texts

-- what a text tells; its last line need not be ended
abbrev pub entries_of : Scenario → Clock → List ℕ → Result (List Entry) TraceFault
entries_of scenario clock text = table_in scenario clock 1 (lines_in (text ++ 10 ∷ [])).ended

-- how many nanoseconds a tick has; one at least
abbrev pub tick_by : Clock → ℕ
tick_by clock = max 1 clock.tick

-- the time is a whole number of such parts of a tick
abbrev pub is_whole : ℕ → ℕ → Entry → Bool
is_whole tick factor one = one.time * factor % tick == 0

-- the first of so many numbers from `factor` on of which all times are whole parts
unfoldable pub first_factor : ℕ → List Entry → ℕ → ℕ → Option ℕ
first_factor tick entries zero factor = None
first_factor tick entries (suc more) factor =
    if list_all (is_whole tick factor) entries then Some factor else first_factor tick entries more (factor + 1)

-- what is told, in fine ticks, unless it is too late
abbrev pub fine_of : ℕ → ℕ → Entry → Result Told TraceFault
fine_of tick factor one =
    if nat_lt LAST_TIME (one.time * factor / tick) then Err (Line one.line causes.Late)
    else Ok (record { line = one.line; message = one.message; event = one.event; time = one.time * factor / tick; stamp = one.stamp })

-- the entries in fine ticks, after those before them
unfoldable pub fine_from : ℕ → ℕ → List Told → List Entry → Result (List Told) TraceFault
fine_from tick factor told [] = Ok told
fine_from tick factor told (one ∷ entries) = fine_of tick factor one >>= (λ fine. fine_from tick factor (told ++ fine ∷ []) entries)

-- a trace: how many fine ticks a tick has, and what is told, in the order of the lines
pub record Trace : Type 0 where
  pub factor : ℕ
  pub told : List Told

-- how many fine ticks a tick may have
abbrev pub most_factor : Scenario → ℕ
most_factor scenario = GREATEST_DELAY / max 1 scenario.delay

-- the entries as a trace with that factor, where there is one
abbrev pub trace_by : ℕ → ℕ → List Entry → Option ℕ → Result Trace TraceFault
trace_by most tick entries None = Err (TooFine most)
trace_by most tick entries (Some factor) = fine_from tick factor [] entries >>= (λ told. Ok (record { factor = factor; told = told }))

-- the entries as a trace, in the coarsest of fine ticks
abbrev pub trace_of : Scenario → Clock → List Entry → Result Trace TraceFault
trace_of scenario clock entries =
    trace_by (most_factor scenario) (tick_by clock) entries (first_factor (tick_by clock) entries (most_factor scenario) 1)

-- THE HEADLINE. The trace of a scenario that a text is.
unfoldable pub trace_of_text : Scenario → Clock → List ℕ → Result Trace TraceFault
trace_of_text scenario clock text = entries_of scenario clock text >>= trace_of scenario clock
