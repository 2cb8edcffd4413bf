-- What is proved of written tables. Each is the one clause of the function of its name in the crate's module `table_laws`.
use Rattle.std.specs.Prelude.{◌≡◌, List, ℕ, [], ◌∷◌, ◌++◌, map, All}
use Rattle.csv.specs.Reading.{default_config, records}
use Rattle.csv.specs.Writing.{read_back}
use Rattle.json.specs.Lex.{tokens}
use Rattle.convoy_tables.specs.declared.format.Format.TheVariants.{Csv, Json}
use Rattle.convoy_tables.specs.Formats.{csv_field, json_array, table_text}
use Rattle.convoy_tables.specs.Tables.{Cell, Table, IsTextOf}

-- the text of each cell in the rows is one that a cell of its kind may have, as in all tables that are made
abbrev pub AreTexts : Table → Type 0
AreTexts table = All (All (λ (cell : Cell). IsTextOf cell.kind cell.text)) table.rows

-- the records of a table as CSV, as the crate `csv` reads them, are its names and then its rows
abbrev pub CsvIsReadBack : Type 0
CsvIsReadBack =
    (table : Table) → records default_config (table_text Csv table)
    ≡ map (λ cells. read_back (map csv_field cells)) (table.columns ∷ table.rows)

-- a table as JSON is read by the crate `json`, up to the end of its last line, as the array of its rows
abbrev pub JsonIsReadBack : Type 0
JsonIsReadBack =
    (table : Table) → AreTexts table
    → (text : List ℕ) × (table_text Json table ≡ text ++ 10 ∷ []) × (tokens text ≡ json_array table)
