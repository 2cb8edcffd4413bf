-- What the lines of a trace say: a row for each, with a text for each of the columns that a trace may have.
use Rattle.std.specs.Prelude.{ℕ, ◌+◌, Bool, false, ◌&&◌, ◌==◌, if◌then◌else◌, List, [], ◌∷◌, length, codes, Option, Some, None, is_some, Result, Ok, Err}
use Rattle.std.specs.Str.{bytes_eq}
use Rattle.json.specs.Json.{Json, null, boolean, number, string, array, object, document}
use Rattle.json.specs.Find.{get}
use Rattle.convoy_lines.specs.Results.{◌>>=◌}
use Rattle.convoy_ranges.specs.Tables.{cell_at}
use Rattle.convoy_scenario.specs.Scenario.{Message}
use Rattle.convoy_traces.specs.declared.columns.Columns.{Columns}
use Rattle.convoy_traces.specs.declared.columns.Head.{Head}
use Rattle.convoy_traces.specs.declared.columns.Head.TheVariants.{Objects, Table}
use Rattle.convoy_traces.specs.declared.fault.Cause.{Cause}
use Rattle.convoy_traces.specs.declared.fault.Cause.TheVariants as causes
use Rattle.convoy_traces.specs.declared.fault.TraceFault.{TraceFault}
use Rattle.convoy_traces.specs.declared.fault.TraceFault.TheVariants.{Line}

-- the number of the first name that is this word, where the first of all has number `i`
abbrev pub numbered : ℕ → List (List ℕ) → List ℕ → Option ℕ
numbered i [] word = None
numbered i (name ∷ names) word = if bytes_eq name word then Some i else numbered (i + 1) names word

-- the number of the first message of that name, where the first of all has number `i`
abbrev pub message_numbered : ℕ → List Message → List ℕ → Option ℕ
message_numbered i [] word = None
message_numbered i (message ∷ messages) word = if bytes_eq message.name word then Some i else message_numbered (i + 1) messages word

-- a row: a text for each column, with nothing in it where the line has none
pub record Row : Type 0 where
  pub event : List ℕ
  pub message : List ℕ
  pub group : List ℕ
  pub from : List ℕ
  pub time : List ℕ
  pub stamp : List ℕ

-- the line begins an object
abbrev pub begins_object : List (List ℕ) → Bool
begins_object cells = begins (cell_at cells 0) where
  begins : List ℕ → Bool
  begins [] = false
  begins (c ∷ cs) = c == 123

-- where each column stands in a line that names them
abbrev pub columns_of : List (List ℕ) → Columns
columns_of cells = record {
  count = length cells;
  event = numbered 0 cells (codes "event");
  message = numbered 0 cells (codes "message");
  group = numbered 0 cells (codes "group");
  from = numbered 0 cells (codes "from");
  time = numbered 0 cells (codes "time");
  stamp = numbered 0 cells (codes "stamp");
}

-- the columns that every trace has are among them
abbrev pub has_all : Columns → Bool
has_all columns = is_some columns.event && is_some columns.message && is_some columns.group && is_some columns.time

-- what the first line says of those below it; where it is an object, it is one of those itself
abbrev pub head_of : ℕ → List (List ℕ) → Result Head TraceFault
head_of line cells =
    if begins_object cells then Ok Objects
    else if has_all (columns_of cells) then Ok (Table (columns_of cells))
    else Err (Line line causes.Header)

-- the cell in a column that may be absent
abbrev pub cell_by : List (List ℕ) → Option ℕ → List ℕ
cell_by cells None = []
cell_by cells (Some place) = cell_at cells place

-- the row of a line of cells
abbrev pub row_of_cells : Columns → List (List ℕ) → Row
row_of_cells columns cells = record {
  event = cell_by cells columns.event;
  message = cell_by cells columns.message;
  group = cell_by cells columns.group;
  from = cell_by cells columns.from;
  time = cell_by cells columns.time;
  stamp = cell_by cells columns.stamp;
}

-- the text of a string or of a number
abbrev pub text_in : Option Json → List ℕ
text_in None = []
text_in (Some null) = []
text_in (Some (boolean b)) = []
text_in (Some (number s)) = s
text_in (Some (string s)) = s
text_in (Some (array js)) = []
text_in (Some (object ms)) = []

-- the row of an object
abbrev pub row_of_object : Json → Row
row_of_object json = record {
  event = text_in (get (codes "event") json);
  message = text_in (get (codes "message") json);
  group = text_in (get (codes "group") json);
  from = text_in (get (codes "from") json);
  time = text_in (get (codes "time") json);
  stamp = text_in (get (codes "stamp") json);
}
