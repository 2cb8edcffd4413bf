-- Worked rows: one table in each format, computed from the definitions alone.
use Rattle.std.proofs.Common.{◌≡◌, [], ◌∷◌, Some, None, codes, refl}
use Rattle.csv.specs.Writing.{escaped, fields_text, is_blank}
use Rattle.json.specs.Print.{escape_byte, print_from}
use Rattle.json.specs.Word.{after_number}
use Rattle.std.specs.Fmt.{digits}
use Rattle.convoy_tables.specs.declared.format.Format.TheVariants.{Text, Csv, Json}
use Rattle.convoy_tables.specs.Formats.{table_text}
use Rattle.convoy_tables.specs.Tables.{Table, nothing, number, numeral, word, IsNumber}

-- a name, a number and nothing; a name with a comma, quotes and a backslash, and one with the end of a line
abbrev table : Table
table = record {
  columns = word (codes "name") ∷ word (codes "n") ∷ word (codes "x") ∷ [];
  rows = (word (codes "a") ∷ number 12 ∷ nothing ∷ [])
      ∷ (word (codes "b,\"\\\"") ∷ number 7 ∷ word (codes "\n") ∷ []) ∷ [];
}

in_columns : table_text Text (record table { rows = (word (codes "a") ∷ number 12 ∷ nothing ∷ []) ∷ (word (codes "longer") ∷ nothing ∷ word (codes "yes") ∷ []) ∷ [] }) ≡
    codes "name    n   x\na       12  -\nlonger  -   yes\n"
unfolding digits
in_columns = refl

as_csv : table_text Csv table ≡ codes "name,n,x\na,12,\n\"b,\"\"\\\"\"\",7,\"\n\"\n"
unfolding digits escaped fields_text is_blank
as_csv = refl

as_json : table_text Json table ≡
    codes "[\n  {\"name\":\"a\",\"n\":12,\"x\":null},\n  {\"name\":\"b,\\\"\\\\\\\"\",\"n\":7,\"x\":\"\\n\"}\n]\n"
unfolding digits escape_byte print_from
as_json = refl

-- times that are told exactly stand at the right of their column, and are numbers of JSON
abbrev times : Table
times = record { columns = word (codes "t") ∷ []; rows = (numeral (codes "193.5") ∷ []) ∷ (numeral (codes "7") ∷ []) ∷ [] }

times_in_columns : table_text Text times ≡ codes "t\n193.5\n    7\n"
times_in_columns = refl

times_as_json : table_text Json times ≡ codes "[\n  {\"t\":193.5},\n  {\"t\":7}\n]\n"
unfolding escape_byte print_from
times_as_json = refl

is_number : (IsNumber (codes "193.5")) × (IsNumber (codes "0.25")) × (IsNumber (codes "7"))
unfolding after_number
is_number = (refl, refl, refl)

-- what follows a number, where a text is none
is_no_number : (after_number (codes ".5") ≡ None) × (after_number (codes "1.") ≡ None) × (after_number (codes "007") ≡ Some (codes "07")) × (after_number (codes "1.2.3") ≡ Some (codes ".3"))
unfolding after_number
is_no_number = (refl, refl, refl, refl)

-- a table without rows
no_rows : table_text Json (record table { rows = [] }) ≡ codes "[\n]\n"
no_rows = refl

-- a text that a spreadsheet would take for a formula, and one that begins with the apostrophe
as_no_formula : table_text Csv (record table { rows = (word (codes "=1+1") ∷ nothing ∷ word (codes "-\"a\"") ∷ []) ∷ (word (codes "'b") ∷ number 3 ∷ word (codes "a-b") ∷ []) ∷ [] }) ≡
    codes "name,n,x\n'=1+1,,\"'-\"\"a\"\"\"\n''b,3,a-b\n"
unfolding digits escaped fields_text is_blank
as_no_formula = refl
