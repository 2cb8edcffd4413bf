-- What the lines of a trace tell of packets, each event once.
use Rattle.std.specs.Prelude.{ℕ, ◌+◌, ◌==◌, if◌then◌else◌, List, [], ◌∷◌, ◌++◌, length, Option, Some, None, Result, Ok, Err}
use Rattle.std.specs.Str.{is_utf8}
use Rattle.json.specs.Json.{Json, document}
use Rattle.convoy_lines.specs.Places.{lines_in}
use Rattle.convoy_lines.specs.Results.{◌>>=◌}
use Rattle.convoy_draft.specs.declared.duration.TimeUnit.{TimeUnit}
use Rattle.convoy_ranges.specs.Tables.{cells_of, is_blank}
use Rattle.convoy_traces.specs.Rows.{Row, head_of, row_of_cells, row_of_object}
use Rattle.convoy_traces.specs.declared.columns.Columns.{Columns}
use Rattle.convoy_traces.specs.declared.columns.Head.{Head}
use Rattle.convoy_traces.specs.declared.columns.Head.TheVariants.{Objects, Table}
use Rattle.convoy_traces.specs.declared.fault.Cause.TheVariants as causes
use Rattle.convoy_traces.specs.declared.fault.TraceFault.{TraceFault}
use Rattle.convoy_traces.specs.declared.fault.TraceFault.TheVariants.{Empty, Line}
use Rattle.convoy_trace_ranges.specs.Events.{Entry, entry_of}
use Rattle.convoy_trace_ranges.specs.Marks.{is_told}

-- what the cells of a line tell, of which there are as many as in the first one
abbrev pub entry_in_cells : Option TimeUnit → ℕ → Columns → List (List ℕ) → Result (Option Entry) TraceFault
entry_in_cells unit line columns cells =
    if length cells == columns.count then entry_of unit line (row_of_cells columns cells) else Err (Line line causes.Cells)

-- what an object tells
abbrev pub entry_in_object : Option TimeUnit → ℕ → Option Json → Result (Option Entry) TraceFault
entry_in_object unit line None = Err (Line line causes.Object)
entry_in_object unit line (Some json) = entry_of unit line (row_of_object json)

-- what a line of text tells
abbrev pub entry_in_text : Option TimeUnit → Head → ℕ → List ℕ → Result (Option Entry) TraceFault
entry_in_text unit Objects line text = entry_in_object unit line (document text)
entry_in_text unit (Table columns) line text = entry_in_cells unit line columns (cells_of text)

-- what a line tells, which is text
abbrev pub entry_in_line : Option TimeUnit → Head → ℕ → List ℕ → Result (Option Entry) TraceFault
entry_in_line unit head line text = if is_utf8 text then entry_in_text unit head line text else Err (Line line causes.Text)

-- what a line tells; nothing where nothing stands in its cells
abbrev pub entry_in : Option TimeUnit → Head → ℕ → List ℕ → Result (Option Entry) TraceFault
entry_in unit head line text = if is_blank (cells_of text) then Ok None else entry_in_line unit head line text

-- entries with one more, whose event none of them tells
abbrev pub with_entry : List Entry → Option Entry → Result (List Entry) TraceFault
with_entry entries None = Ok entries
with_entry entries (Some one) = if is_told entries one then Err (Line one.line causes.Twice) else Ok (entries ++ one ∷ [])

-- entries with what a line tells
abbrev pub with_line : Option TimeUnit → Head → ℕ → List Entry → List ℕ → Result (List Entry) TraceFault
with_line unit head line entries text = entry_in unit head line text >>= with_entry entries

-- entries with what the lines tell
unfoldable pub rows_from : Option TimeUnit → Head → ℕ → List Entry → List (List ℕ) → Result (List Entry) TraceFault
rows_from unit head line entries [] = Ok entries
rows_from unit head line entries (text ∷ texts) =
    with_line unit head line entries text >>= (λ more. rows_from unit head (line + 1) more texts)

-- what is told by the first line, where it is an object, and by those below it
abbrev pub rows_below : Option TimeUnit → ℕ → List ℕ → List (List ℕ) → Head → Result (List Entry) TraceFault
rows_below unit line text texts Objects = with_line unit Objects line [] text >>= (λ more. rows_from unit Objects (line + 1) more texts)
rows_below unit line text texts (Table columns) = rows_from unit (Table columns) (line + 1) [] texts

-- what lines tell, the first of which with something in its cells is the first one
unfoldable pub table_in : Option TimeUnit → ℕ → List (List ℕ) → Result (List Entry) TraceFault
table_in unit line [] = Err Empty
table_in unit line (text ∷ texts) =
    if is_blank (cells_of text) then table_in unit (line + 1) texts
    else head_of line (cells_of text) >>= rows_below unit line text texts

-- what a text tells; its last line need not be ended
abbrev pub entries_of : Option TimeUnit → List ℕ → Result (List Entry) TraceFault
entries_of unit text = table_in unit 1 (lines_in (text ++ 10 ∷ [])).ended
