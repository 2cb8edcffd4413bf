-- How a table is written, in each of the four formats.
use Rattle.std.specs.Prelude.{ℕ, ◌+◌, ◌-◌, ◌==◌, max, Bool, false, ◌||◌, if◌then◌else◌, List, [], ◌∷◌, ◌++◌, length, map, codes, replicate, slice_index_or}
use Rattle.std.specs.List.{enumerate_from, flat_map, fold, list_any, range_with_len}
use Rattle.csv.specs.Writing.{default_writer, row_text}
use Rattle.json.specs.Print.{print}
use Rattle.json.specs.Token.{Token}
use Rattle.convoy_tables.specs.declared.cell.Kind.{Kind}
use Rattle.convoy_tables.specs.declared.cell.Kind.TheVariants.{Word, Number, Nothing}
use Rattle.convoy_tables.specs.declared.format.Format.{Format}
use Rattle.convoy_tables.specs.declared.format.Format.TheVariants.{Text, Csv, Json, Html}
use Rattle.convoy_tables.specs.Tables.{Cell, Table, cell_at, is_number, shown}

-- what stands between two pieces: nothing before the first
abbrev pub before : ℕ → List ℕ → List ℕ
before i between = if i == 0 then [] else between

-- pieces one after the other, one of each element and its number, with something between them
abbrev pub joined : {X : Type 0} → List ℕ → (ℕ → X → List ℕ) → List X → List ℕ
joined between piece xs = flat_map (λ p. before p.0 between ++ piece p.0 p.1) (enumerate_from 0 xs)

-- ALIGNED COLUMNS
-- how many bytes stand for the cell of a row in a column
abbrev pub shown_width : ℕ → List Cell → ℕ
shown_width column row = length (shown (cell_at row column))

-- how wide a column is: as its name, or as the widest of its cells
abbrev pub width_at : List Cell → List (List Cell) → ℕ → ℕ
width_at names rows column = fold max (shown_width column names) (map (shown_width column) rows)

-- how wide each column is
abbrev pub widths_of : Table → List ℕ
widths_of table = map (width_at table.columns table.rows) (range_with_len 0 (length table.columns))

-- the spaces that fill a column of that width
abbrev pub filling : ℕ → Cell → List ℕ
filling width cell = replicate (width - length (shown cell)) 32

-- A cell in a column of that width: a number stands at its right, all else at its left. No line ends in such spaces.
abbrev pub aligned : ℕ → Bool → Cell → List ℕ
aligned width is_last cell =
    if is_number cell.kind then filling width cell ++ shown cell
    else shown cell ++ (if is_last then [] else filling width cell)

-- a cell in a column, of a row with so many cells, in a table whose columns are so wide
abbrev pub column_text : List ℕ → ℕ → ℕ → Cell → List ℕ
column_text widths count column cell = aligned (slice_index_or widths column 0) (column + 1 == count) cell

-- the cells of a row, with two spaces between them
abbrev pub columns_text : List ℕ → List Cell → List ℕ
columns_text widths cells = joined (codes "  ") (column_text widths (length cells)) cells

-- a row as a line
abbrev pub line_text : List ℕ → List Cell → List ℕ
line_text widths cells = columns_text widths cells ++ 10 ∷ []

-- the names of the columns and the rows, each in a line
abbrev pub lines_text : List ℕ → Table → List ℕ
lines_text widths table = line_text widths table.columns ++ flat_map (line_text widths) table.rows

-- CSV
-- a byte that, at the head of a field, has a spreadsheet take it for a formula (`=`, `+`, `-`, `@`, a tab, a carriage
-- return), or the apostrophe that keeps it from that
abbrev pub is_telling : ℕ → Bool
is_telling c = c == 61 || c == 43 || c == 45 || c == 64 || c == 9 || c == 13 || c == 39

-- the text begins with such a byte
abbrev pub begins_telling : List ℕ → Bool
begins_telling [] = false
begins_telling (c ∷ others) = is_telling c

-- the field of a cell: its text, after an apostrophe where a spreadsheet would take it for a formula
abbrev pub csv_field : Cell → List ℕ
csv_field cell = if begins_telling cell.text then 39 ∷ cell.text else cell.text

-- a row as a record, which is quoted and ended as the crate `csv` does it by its defaults
abbrev pub record_text : List Cell → List ℕ
record_text cells = row_text default_writer (map csv_field cells)

-- the names of the columns and the rows, each a record
abbrev pub records_text : Table → List ℕ
records_text table = record_text table.columns ++ flat_map record_text table.rows

-- JSON
-- the value of a cell
abbrev pub json_value : Kind → List ℕ → Token
json_value Word text = Token.string text
json_value Number text = Token.number text
json_value Nothing text = Token.null

-- a cell after the name of its column
abbrev pub json_member : List Cell → ℕ × Cell → List Token
json_member names p = Token.key (cell_at names p.0).text ∷ json_value p.1.kind p.1.text ∷ []

-- a row as an object
abbrev pub json_object : List Cell → List Cell → List Token
json_object names cells = Token.begin_object ∷ (flat_map (json_member names) (enumerate_from 0 cells) ++ Token.end_object ∷ [])

-- the rows as an array
abbrev pub json_array : Table → List Token
json_array table = Token.begin_array ∷ (flat_map (json_object table.columns) table.rows ++ Token.end_array ∷ [])

-- a row in a line of its own, as the crate `json` writes an object
abbrev pub object_text : List Cell → ℕ → List Cell → List ℕ
object_text names i cells = codes "\n  " ++ print (json_object names cells)

-- the array, a line for each row
abbrev pub array_text : Table → List ℕ
array_text table = 91 ∷ (joined (codes ",") (object_text table.columns) table.rows ++ codes "\n]\n")

-- HTML
-- a byte as it stands in a text of HTML: what has a meaning there (`&`, `<`, `>` and both quotes) by its entity
abbrev pub html_byte : ℕ → List ℕ
html_byte c =
    if c == 38 then codes "&amp;"
    else if c == 60 then codes "&lt;"
    else if c == 62 then codes "&gt;"
    else if c == 34 then codes "&quot;"
    else if c == 39 then codes "&#39;"
    else c ∷ []

-- a text as it stands in HTML
abbrev pub escaped : List ℕ → List ℕ
escaped text = flat_map html_byte text

-- the start of a cell by what it has, so that a style tells numbers apart
abbrev pub cell_start : Kind → List ℕ
cell_start Word = codes "<td>"
cell_start Number = codes "<td class=\"number\">"
cell_start Nothing = codes "<td class=\"nothing\">"

-- a cell
abbrev pub html_cell : Cell → List ℕ
html_cell cell = cell_start cell.kind ++ (escaped (shown cell) ++ codes "</td>")

-- a row in a line of its own
abbrev pub html_row : List Cell → List ℕ
html_row cells = codes "<tr>" ++ (flat_map html_cell cells ++ codes "</tr>\n")

-- some row has a number in the column
abbrev pub is_of_numbers : ℕ → List (List Cell) → Bool
is_of_numbers column rows = list_any (λ cells. is_number (cell_at cells column).kind) rows

-- the start of the name of a column, which stands as its numbers do
abbrev pub name_start : Bool → List ℕ
name_start of_numbers = if of_numbers then codes "<th class=\"number\">" else codes "<th>"

-- the name of a column of these rows
abbrev pub html_name : List (List Cell) → ℕ → Cell → List ℕ
html_name rows column name = name_start (is_of_numbers column rows) ++ (escaped name.text ++ codes "</th>")

-- the names of the columns of these rows
abbrev pub html_names : List (List Cell) → List Cell → List ℕ
html_names rows names = joined [] (html_name rows) names

-- the names of the columns and the rows
abbrev pub html_text : Table → List ℕ
html_text table =
    codes "<table>\n<tr>" ++ (html_names table.rows table.columns
    ++ (codes "</tr>\n" ++ (flat_map html_row table.rows ++ codes "</table>\n")))

-- TABLES
-- the table as it is written
abbrev pub table_text : Format → Table → List ℕ
table_text Text table = lines_text (widths_of table) table
table_text Csv table = records_text table
table_text Json table = array_text table
table_text Html table = html_text table
