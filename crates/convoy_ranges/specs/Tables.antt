-- What tables of round trips tell: their lines, the cells of these, and what is measured there.
use Rattle.std.specs.Prelude.{ℕ, ◌+◌, ◌≤◌, Bool, ◌&&◌, ◌||◌, ◌==◌, not, if◌then◌else◌, List, [], ◌∷◌, ◌++◌, length, drop, Option, Some, None, slice_index_or, option_map, IfSome, Result, Ok, Err, codes}
use Rattle.std.specs.Option.{option_or}
use Rattle.std.specs.List.{list_all}
use Rattle.std.specs.Str.{bytes_eq}
use Rattle.csv.specs.Machine.{Read, next_record}
use Rattle.csv.specs.Reading.{default_config, strip_bom, trim_by}
use Rattle.csv.specs.declared.parser.Config.{Config}
use Rattle.csv.specs.declared.parser.State.TheVariants.{StartRecord}
use Rattle.csv.specs.declared.reader.Trim.TheVariants.{All as All-cells}
use Rattle.convoy_lines.specs.Places.{lines_in}
use Rattle.convoy_lines.specs.Results.{◌>>=◌}
use Rattle.convoy_lines.specs.Words.{number_of}
use Rattle.convoy_draft.specs.Durations.{duration_of}
use Rattle.convoy_draft.specs.Names.{is_group_name}
use Rattle.convoy_draft.specs.declared.duration.TheConstants.{LONGEST_DURATION}
use Rattle.convoy_ranges.specs.declared.fault.Cause.{Cause}
use Rattle.convoy_ranges.specs.declared.fault.Cause.TheVariants as causes
use Rattle.convoy_ranges.specs.declared.fault.RangesFault.{RangesFault}
use Rattle.convoy_ranges.specs.declared.fault.RangesFault.TheVariants.{Empty, Line}
use Rattle.convoy_ranges.specs.declared.fault.TheConstants.{MOST_KILOMETRES}

-- a round trip between two places: the line that tells it, how many nanoseconds it took, and how far the places are from each other, where that is known
pub record Sighting : Type 0 where
  pub line : ℕ
  pub from : List ℕ
  pub to : List ℕ
  pub round_trip : ℕ
  pub kilometres : Option ℕ

-- a round trip is a duration, and a distance within its limit
abbrev pub IsMeasured : ℕ → Option ℕ → Type 0
IsMeasured round_trip kilometres = (round_trip ≤ LONGEST_DURATION) × IfSome kilometres (λ distance. distance ≤ MOST_KILOMETRES)

-- what the first line says of those below it: how many cells each has, and the places that are columns, of which a list of pairs has none
pub record Head : Type 0 where
  pub count : ℕ
  pub places : List (List ℕ)

-- CSV in which a line that begins with # is a comment
abbrev pub table_config : Config
table_config = record default_config { comment = Some 35 }

-- the fields of a record that was read; none where there was no record
abbrev pub fields_in : Option Read → List (List ℕ)
fields_in None = []
fields_in (Some found) = found.0

-- the cells of a line: what stands between its commas, without the space around it
unfoldable pub cells_of : List ℕ → List (List ℕ)
cells_of line = trim_by All-cells (fields_in (next_record table_config StartRecord [] [] (strip_bom line)))

-- nothing stands in a cell
abbrev pub is_empty : List ℕ → Bool
is_empty cell = length cell == 0

-- nothing stands in any of them
abbrev pub is_blank : List (List ℕ) → Bool
is_blank cells = list_all is_empty cells

-- the cell at a place; an empty one where there is none
abbrev pub cell_at : List (List ℕ) → ℕ → List ℕ
cell_at cells place = slice_index_or cells place []

-- what is found, or that fault of the line
abbrev pub in_line : {X : Type 0} → ℕ → Cause → Option X → Result X RangesFault
in_line line cause None = Err (Line line cause)
in_line line cause (Some x) = Ok x

-- the cell, where it is a name
abbrev pub named : List ℕ → Option (List ℕ)
named cell = if is_group_name cell then Some cell else None

-- the time that a cell tells, in nanoseconds: a duration, or a number of milliseconds
abbrev pub time_of : List ℕ → Option ℕ
time_of cell = option_or (duration_of cell) (duration_of (cell ++ codes " ms"))

-- the distance that a cell tells: none where nothing stands in it
abbrev pub distance_of : List ℕ → Option (Option ℕ)
distance_of cell = if is_empty cell then Some None else option_map Some (number_of MOST_KILOMETRES cell)

-- what was told before, and then what is told
abbrev pub with_front : {X : Type 0} → List X → Result (List X) RangesFault → Result (List X) RangesFault
with_front front (Ok more) = Ok (front ++ more)
with_front front (Err fault) = Err fault

-- names of places
abbrev pub names_in : ℕ → List (List ℕ) → Result (List (List ℕ)) RangesFault
names_in line [] = Ok []
names_in line (cell ∷ cells) =
    in_line line causes.Name (named cell) >>= (λ name. with_front (name ∷ []) (names_in line cells))

-- the cells begin a list of pairs
abbrev pub begins_pairs : List (List ℕ) → Bool
begins_pairs cells =
    bytes_eq (cell_at cells 0) (codes "from") && bytes_eq (cell_at cells 1) (codes "to") && bytes_eq (cell_at cells 2) (codes "round_trip")
    && ((length cells == 3) || ((length cells == 4) && bytes_eq (cell_at cells 3) (codes "kilometres")))

-- what the first line says, where it is one of a list of pairs, or of a matrix
abbrev pub head_of : ℕ → List (List ℕ) → Result Head RangesFault
head_of line cells =
    if begins_pairs cells then Ok (record { count = length cells; places = [] })
    else if is_empty (cell_at cells 0) then names_in line (drop 1 cells) >>= (λ places. Ok (record { count = length cells; places = places }))
    else Err (Line line causes.Header)

-- what a line of a list of pairs tells
abbrev pub pair_in : ℕ → List (List ℕ) → Result Sighting RangesFault
pair_in line cells =
    in_line line causes.Name (named (cell_at cells 0)) >>= (λ from.
    in_line line causes.Name (named (cell_at cells 1)) >>= (λ to.
    in_line line causes.Time (time_of (cell_at cells 2)) >>= (λ round_trip.
    in_line line causes.Distance (distance_of (cell_at cells 3)) >>= (λ kilometres.
    Ok (record { line = line; from = from; to = to; round_trip = round_trip; kilometres = kilometres })))))

-- what a cell of a matrix tells: nothing where it is empty, or stands for a place and itself
abbrev pub seen_in : ℕ → List ℕ → List ℕ → List ℕ → Result (List Sighting) RangesFault
seen_in line from to cell =
    if is_empty cell || bytes_eq from to then Ok []
    else in_line line causes.Time (time_of cell) >>= (λ round_trip.
    Ok (record { line = line; from = from; to = to; round_trip = round_trip; kilometres = None } ∷ []))

-- what the cells of a matrix tell from a place on, each for its column
abbrev pub all_seen : ℕ → List ℕ → List (List ℕ) → ℕ → List (List ℕ) → Result (List Sighting) RangesFault
all_seen line from cells place [] = Ok []
all_seen line from cells place (to ∷ columns) =
    seen_in line from to (cell_at cells place) >>= (λ seen. with_front seen (all_seen line from cells (place + 1) columns))

-- what a line tells below the first one: its cells are as many
abbrev pub row_in : Head → ℕ → List (List ℕ) → Result (List Sighting) RangesFault
row_in head line cells =
    if not (length cells == head.count) then Err (Line line causes.Cells)
    else if length head.places == 0 then pair_in line cells >>= (λ seen. Ok (seen ∷ []))
    else in_line line causes.Name (named (cell_at cells 0)) >>= (λ from. all_seen line from cells 1 head.places)

-- what a line tells below the first one: nothing where nothing stands in its cells
abbrev pub line_in : Head → ℕ → List ℕ → Result (List Sighting) RangesFault
line_in head line text = if is_blank (cells_of text) then Ok [] else row_in head line (cells_of text)

-- what the lines below the first one tell
unfoldable pub rows_in : Head → ℕ → List (List ℕ) → Result (List Sighting) RangesFault
rows_in head line [] = Ok []
rows_in head line (text ∷ texts) =
    line_in head line text >>= (λ seen. with_front seen (rows_in head (line + 1) texts))

-- what lines tell, the first of which with something in its cells is the first one
unfoldable pub table_in : ℕ → List (List ℕ) → Result (List Sighting) RangesFault
table_in line [] = Err Empty
table_in line (text ∷ texts) =
    if is_blank (cells_of text) then table_in (line + 1) texts
    else head_of line (cells_of text) >>= (λ head. rows_in head (line + 1) texts)

-- what a table tells; its last line need not be ended
abbrev pub sightings_of : List ℕ → Result (List Sighting) RangesFault
sightings_of text = table_in 1 (lines_in (text ++ 10 ∷ [])).ended
