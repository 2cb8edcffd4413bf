-- The lines of a text that is written: each key with its value, and each header.
use Rattle.std.proofs.Common.{◌≡◌, ℕ, ◌<◌, ◌^◌, Bool, true, false, ◌&&◌, nat_lt, List, [], ◌∷◌, ◌++◌, length, map, codes, decimal, pos, refl, sym, ap, ◌∙◌, append_assoc, arith}
use Rattle.std.specs.Prelude.{FitsSigned}
use Rattle.std.specs.Int.{w64}
use Rattle.std.specs.List.{flat_map, list_all, AllByRecursion}
use Rattle.toml_parser.specs.Lexical.{is_bare}
use Rattle.toml_writer.specs.Text.{key_text}
use Rattle.toml.specs.Data.{Data, string, array, Items, no_items, item}
use Rattle.toml.specs.Tables.{Expression, std_table, array_table}
use Rattle.toml.specs.Text.{IsValueText, IsItemsText, IsLinesText, breaks_lines}
use Rattle.toml.specs.View.{items_of}
use Rattle.convoy_toml_writer.specs.Text.{further, listed, quoted}
use Rattle.convoy_toml_writer.proofs.Plain.{are_plain, plain_string, bare_key}
use Rattle.convoy_toml_writer.proofs.Document.{number, pair}

-- the text has these lines, in the form without line breaks in arrays
pub record AreLines (started : Bool) (es : List Expression) (text : List ℕ) : Type 0 where
  pub lines : IsLinesText false started es text

abbrev pub no_lines : AreLines true [] []
no_lines = record { lines = refl }

abbrev pub IsBareKey : List ℕ → Type 0
IsBareKey key = (nat_lt 0 (length key) && list_all is_bare key) ≡ true

-- ---- values

number_fits : (n : ℕ) → n < 2 ^ 32 → FitsSigned w64 (pos n)
number_fits n small = omega (arith, small)

pub number_text : (n : ℕ) → n < 2 ^ 32 → IsValueText false (number n) (decimal n)
number_text n small = (refl, number_fits n small)

pub name_text : (name : List ℕ) → are_plain name ≡ true → IsValueText false (string name) (quoted name)
name_text name plain = sym (plain_string name plain)

unbroken : (ds : Items) → breaks_lines false ds ≡ false
unbroken no_items = refl
unbroken (item d no_items) = refl
unbroken (item d (item e ds)) = refl

module _ {A : Type 0} (data_of : A → Data) (word_of : A → List ℕ) where
  -- each word is the text of its value
  abbrev pub AreWords : List A → Type 0
  AreWords xs = AllByRecursion (λ x. IsValueText false (data_of x) (word_of x)) xs

  further_items : (xs : List A) → AreWords xs → IsItemsText false false false (items_of (map data_of xs)) (flat_map further (map word_of xs) ++ codes "]")
  further_items [] are = refl
  further_items (x ∷ xs) are =
      let rest = flat_map further (map word_of xs) in
      let parts : (further (word_of x) ++ rest) ++ codes "]" ≡ codes ", " ++ (word_of x ++ (rest ++ codes "]")) =
      ap (λ t. codes ", " ++ t) (append_assoc (word_of x) rest (codes "]")) in
      (word_of x, rest ++ codes "]", parts, are.0, further_items xs are.1)

  all_items : (xs : List A) → AreWords xs → IsItemsText false false true (items_of (map data_of xs)) (listed (map word_of xs) ++ codes "]")
  all_items [] are = refl
  all_items (x ∷ xs) are =
      let rest = flat_map further (map word_of xs) in
      (word_of x, rest ++ codes "]", append_assoc (word_of x) rest (codes "]"), are.0, further_items xs are.1)

  pub array_text : (xs : List A) → AreWords xs → IsValueText false (array (items_of (map data_of xs))) (codes "[" ++ (listed (map word_of xs) ++ codes "]"))
  array_text xs are = (listed (map word_of xs) ++ codes "]", refl, rw (unbroken (items_of (map data_of xs))) (all_items xs are))

pub numbers_are : (ns : List ℕ) → AllByRecursion (λ n. n < 2 ^ 32) ns → AreWords number decimal ns
numbers_are [] small = tt
numbers_are (n ∷ ns) small = (number_text n small.0, numbers_are ns small.1)

pub names_are : (names : List (List ℕ)) → AllByRecursion (λ name. are_plain name ≡ true) names → AreWords string quoted names
names_are [] plain = tt
names_are (name ∷ names) plain = (name_text name plain.0, names_are names plain.1)

-- ---- lines

pub lines_append : (es fs : List Expression) (a b : List ℕ) (started : Bool) → AreLines started es a → AreLines true fs b → AreLines started fs b → AreLines started (es ++ fs) (a ++ b)
lines_append [] fs a b started h after now = rw (h.lines) now
lines_append (e ∷ es) fs a b started h after now =
    let (this, rest, whole, line, more) = h.lines in
    let others = lines_append es fs rest b true (record { lines = more }) after after in
    record { lines = (this, rest ++ b, rw whole (append_assoc this rest b), line, others.lines) }

-- more lines after those of a text
pub more_lines : (es fs : List Expression) (a b : List ℕ) → AreLines true es a → AreLines true fs b → AreLines true (es ++ fs) (a ++ b)
more_lines es fs a b h more = lines_append es fs a b true h more more

-- the lines of each of a list
pub all_lines : {A : Type 0} (lines_of : A → List Expression) (text_of : A → List ℕ) (xs : List A) → AllByRecursion (λ x. AreLines true (lines_of x) (text_of x)) xs → AreLines true (flat_map lines_of xs) (flat_map text_of xs)
all_lines lines_of text_of [] h = no_lines
all_lines lines_of text_of (x ∷ xs) h = more_lines (lines_of x) (flat_map lines_of xs) (text_of x) (flat_map text_of xs) h.0 (all_lines lines_of text_of xs h.1)

-- a key with its value
pub pair_line : (started : Bool) (key word rest : List ℕ) (d : Data) (es : List Expression) → IsBareKey key → IsValueText false d word → AreLines true es rest
    → AreLines started (pair key d ∷ es) (key ++ (codes " = " ++ (word ++ (10 ∷ rest))))
pair_line started key word rest d es bare value more =
    let line = key ++ (codes " = " ++ (word ++ 10 ∷ [])) in
    let end : (word ++ 10 ∷ []) ++ rest ≡ word ++ (10 ∷ rest) = append_assoc word (10 ∷ []) rest in
    let whole : line ++ rest ≡ key ++ (codes " = " ++ (word ++ (10 ∷ rest))) = append_assoc key (codes " = " ++ (word ++ 10 ∷ [])) rest ∙ ap (λ t. key ++ (codes " = " ++ t)) end in
    let as_key : line ≡ key_text key ++ (codes " = " ++ (word ++ 10 ∷ [])) = ap (λ k. k ++ (codes " = " ++ (word ++ 10 ∷ []))) (sym (bare_key key bare)) in
    record { lines = (line, rest, sym whole, (word, as_key, value), more.lines) }

-- a key with a text
pub text_line : (started : Bool) (key name rest : List ℕ) (es : List Expression) → IsBareKey key → are_plain name ≡ true → AreLines true es rest
    → AreLines started (pair key (string name) ∷ es) (key ++ (codes " = \"" ++ (name ++ (codes "\"\n" ++ rest))))
text_line started key name rest es bare plain more =
    let end : quoted name ++ (10 ∷ rest) ≡ codes "\"" ++ (name ++ (codes "\"\n" ++ rest)) = ap (λ t. codes "\"" ++ t) (append_assoc name (codes "\"") (10 ∷ rest)) in
    rw end at (pair_line started key (quoted name) rest (string name) es bare (name_text name plain) more)

-- a key with an array
pub array_line : {A : Type 0} (data_of : A → Data) (word_of : A → List ℕ) (started : Bool) (key rest : List ℕ) (xs : List A) (es : List Expression) → IsBareKey key → AreWords data_of word_of xs → AreLines true es rest
    → AreLines started (pair key (array (items_of (map data_of xs))) ∷ es) (key ++ (codes " = [" ++ (listed (map word_of xs) ++ (codes "]\n" ++ rest))))
array_line data_of word_of started key rest xs es bare are more =
    let words = listed (map word_of xs) in
    let end : (codes "[" ++ (words ++ codes "]")) ++ (10 ∷ rest) ≡ codes "[" ++ (words ++ (codes "]\n" ++ rest)) = ap (λ t. codes "[" ++ t) (append_assoc words (codes "]") (10 ∷ rest)) in
    rw end at (pair_line started key (codes "[" ++ (words ++ codes "]")) rest (array (items_of (map data_of xs))) es bare (array_text data_of word_of xs are) more)

-- the header of one of several tables, and that of a table, after an empty line
pub array_header : (key rest : List ℕ) (es : List Expression) → IsBareKey key → AreLines true es rest → AreLines true ((([], key), array_table) ∷ es) (codes "\n[[" ++ (key ++ (codes "]]\n" ++ rest)))
array_header key rest es bare more =
    let line = codes "\n[[" ++ (key ++ codes "]]\n") in
    let whole : line ++ rest ≡ codes "\n[[" ++ (key ++ (codes "]]\n" ++ rest)) = ap (λ t. codes "\n[[" ++ t) (append_assoc key (codes "]]\n") rest) in
    let as_key : line ≡ codes "\n[[" ++ (key_text key ++ codes "]]\n") = ap (λ k. codes "\n[[" ++ (k ++ codes "]]\n")) (sym (bare_key key bare)) in
    record { lines = (line, rest, sym whole, as_key, more.lines) }

pub table_header : (key rest : List ℕ) (es : List Expression) → IsBareKey key → AreLines true es rest → AreLines true ((([], key), std_table) ∷ es) (codes "\n[" ++ (key ++ (codes "]\n" ++ rest)))
table_header key rest es bare more =
    let line = codes "\n[" ++ (key ++ codes "]\n") in
    let whole : line ++ rest ≡ codes "\n[" ++ (key ++ (codes "]\n" ++ rest)) = ap (λ t. codes "\n[" ++ t) (append_assoc key (codes "]\n") rest) in
    let as_key : line ≡ codes "\n[" ++ (key_text key ++ codes "]\n") = ap (λ k. codes "\n[" ++ (k ++ codes "]\n")) (sym (bare_key key bare)) in
    record { lines = (line, rest, sym whole, as_key, more.lines) }
