-- What a writer writes of a record is the same whether records may differ in length or not.
use Rattle.std.proofs.Common.{◌≡◌, ℕ, true, List, [], ◌∷◌, refl}
use Rattle.csv.specs.Writing.{default_writer, escaped, field_text, fields_text, is_blank, row_text, with_flexible}
use Rattle.csv.specs.declared.writer.WriterBuilder.{WriterBuilder}

abbrev pub flexible : WriterBuilder
flexible = with_flexible default_writer true

escaped_same : (text : List ℕ) → escaped flexible text ≡ escaped default_writer text
unfolding escaped
escaped_same [] = refl
escaped_same (c ∷ others) = rw (escaped_same others) refl

field_same : (text : List ℕ) → field_text flexible text ≡ field_text default_writer text
field_same text = rw (escaped_same text) refl

fields_same : (fields : List (List ℕ)) → fields_text flexible fields ≡ fields_text default_writer fields
unfolding fields_text
fields_same [] = refl
fields_same (field ∷ others) = rw (field_same field, fields_same others) refl

blank_same : (fields : List (List ℕ)) → is_blank flexible fields ≡ is_blank default_writer fields
unfolding is_blank
blank_same [] = refl
blank_same (field ∷ []) = rw (field_same field) refl
blank_same (field ∷ next ∷ others) = refl

pub row_same : (fields : List (List ℕ)) → row_text flexible fields ≡ row_text default_writer fields
row_same [] = rw (blank_same []) refl
row_same (field ∷ others) = rw (field_same field, fields_same others, blank_same (field ∷ others)) refl
