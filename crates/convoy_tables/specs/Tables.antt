-- A table, as plain data.
use Rattle.std.specs.Prelude.{ℕ, Bool, true, false, ⊤, List, [], codes, decimal, slice_index_or}
pub use Rattle.json.specs.Print.{IsNumber}
use Rattle.convoy_tables.specs.declared.cell.Kind.{Kind}
use Rattle.convoy_tables.specs.declared.cell.Kind.TheVariants.{Word, Number, Nothing}

-- a cell: what it has, and its word, or its number in digits
pub record Cell : Type 0 where
  pub kind : Kind
  pub text : List ℕ

-- a table: the names of its columns, and its rows, each a list of cells
pub record Table : Type 0 where
  pub columns : List Cell
  pub rows : List (List Cell)

abbrev pub word : List ℕ → Cell
word text = record { kind = Word; text = text }

-- a number, as its text has it
abbrev pub numeral : List ℕ → Cell
numeral text = record { kind = Number; text = text }

abbrev pub number : ℕ → Cell
number n = numeral (decimal n)

abbrev pub nothing : Cell
nothing = record { kind = Nothing; text = [] }

-- what a cell of that kind may have as its text: the text of a number is a number of JSON
abbrev pub IsTextOf : Kind → List ℕ → Type 0
IsTextOf Word text = ⊤
IsTextOf Number text = IsNumber text
IsTextOf Nothing text = ⊤

-- the cell of a row in a column, or where it has none nothing
abbrev pub cell_at : List Cell → ℕ → Cell
cell_at row column = slice_index_or row column nothing

-- what stands for a cell in aligned columns: its word or its number, and a dash for nothing
abbrev pub shown_as : Kind → List ℕ → List ℕ
shown_as Word text = text
shown_as Number text = text
shown_as Nothing text = codes "-"

abbrev pub shown : Cell → List ℕ
shown cell = shown_as cell.kind cell.text

-- a cell that stands at the right of its column
abbrev pub is_number : Kind → Bool
is_number Word = false
is_number Number = true
is_number Nothing = false
