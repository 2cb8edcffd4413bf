-- What a table is as CSV, read again.
use Rattle.std.proofs.Common.{◌≡◌, ℕ, zero, suc, ◌+◌, ◌<◌, ◌≤◌, if◌then◌else◌, List, [], ◌∷◌, ◌++◌, length, length-append, map, refl, ap, arith}
use Rattle.std.specs.List.{flat_map}
use Rattle.csv.proofs.RoundTrip.{read-write}
use Rattle.csv.specs.Machine.{next_record}
use Rattle.csv.specs.Reading.{default_config, records_from}
use Rattle.csv.specs.Writing.{default_writer, is_blank, read_back, row_body, row_text}
use Rattle.csv.specs.declared.parser.State.TheVariants.{StartRecord}
use Rattle.convoy_tables.specs.Formats.{csv_field, record_text}
use Rattle.convoy_tables.specs.Tables.{Cell}

rows_read : (n : ℕ) (rows : List (List Cell)) → length rows < n
    → records_from default_config n StartRecord (flat_map record_text rows) ≡ map (λ cells. read_back (map csv_field cells)) rows
unfolding records_from next_record
rows_read zero rows more = absurd (omega arith)
rows_read (suc n) [] more = refl
rows_read (suc n) (cells ∷ others) more =
    rw (read-write (map csv_field cells) (flat_map record_text others))
    (ap (λ records. read_back (map csv_field cells) ∷ records) (rows_read n others (omega arith)))

-- a record has a byte at least, that which ends it
some_byte : (fields : List (List ℕ)) → 0 < length (row_text default_writer fields)
some_byte fields =
    let blank : List ℕ = if is_blank default_writer fields then 34 ∷ 34 ∷ [] else [] in
    omega (arith, length-append (row_body default_writer fields) (blank ++ 10 ∷ []), length-append blank (10 ∷ []))

no_more_rows : (rows : List (List Cell)) → length rows ≤ length (flat_map record_text rows)
no_more_rows [] = omega arith
no_more_rows (cells ∷ others) =
    omega (arith, length-append (record_text cells) (flat_map record_text others), some_byte (map csv_field cells), no_more_rows others)

pub rows_again : (rows : List (List Cell))
    → records_from default_config (length (flat_map record_text rows) + 1) StartRecord (flat_map record_text rows)
    ≡ map (λ cells. read_back (map csv_field cells)) rows
rows_again rows = rows_read (length (flat_map record_text rows) + 1) rows (omega (arith, no_more_rows rows))
