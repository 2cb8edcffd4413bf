-- Lines that begin with a label, and what stands after it.
use Rattle.std.specs.Prelude.{ℕ, ◌==◌, Bool, false, ◌&&◌, not, if◌then◌else◌, List, length, Option, Some, None}
use Rattle.std.specs.List.{list_all}
use Rattle.std.specs.Option.{option_map_or}
use Rattle.std.specs.Str.{bytes_eq}
use Rattle.convoy_lines.specs.Chains.{◌>>=◌}
use Rattle.convoy_lines.specs.Words.{words_of, next_word, number_of}

-- the greatest number of 32 bits
abbrev pub greatest_number : ℕ
greatest_number = 4_294_967_295

-- exactly one space stands between two words: none of them is empty
abbrev pub is_spaced : List (List ℕ) → Bool
is_spaced words = list_all (λ word. not (length word == 0)) words

-- the first word is this one
abbrev pub begins_with : List ℕ → List (List ℕ) → Bool
begins_with label words = option_map_or (λ next. bytes_eq next.0 label) (next_word words) false

-- the words after the label of a line, where exactly one space stands between two words
abbrev pub words_after : List ℕ → List ℕ → Option (List (List ℕ))
words_after label line = do
  next ← next_word (words_of line)
  if bytes_eq next.0 label && is_spaced (words_of line) then Some next.1 else None

-- the number of a line LABEL NUMBER
abbrev pub number_in : List ℕ → List ℕ → Option ℕ
number_in label line = do
  words ← words_after label line
  word ← next_word words
  number ← number_of greatest_number word.0
  if length word.1 == 0 then Some number else None
