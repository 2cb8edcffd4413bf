-- The words of a line, and the numbers among them.
use Rattle.std.specs.Prelude.{◌≡◌, ℕ, ◌==◌, nat_le, Bool, false, ◌&&◌, ◌||◌, not, List, [], ◌∷◌, ◌++◌, length, Option, Some, None, if◌then◌else◌}
use Rattle.std.specs.List.{slice_split, list_any}
use Rattle.std.specs.Str.{all_ascii_digits}
use Rattle.std.specs.Str.Parse.{digits_value}

-- none of the bytes is this one
abbrev pub Lacks : ℕ → List ℕ → Type 0
Lacks byte bytes = list_any (λ b. b == byte) bytes ≡ false

-- the bytes before one byte and those after it; those before alone, where there is no such byte
abbrev pub joined_by : ℕ → List ℕ → Option (List ℕ) → List ℕ
joined_by byte front None = front
joined_by byte front (Some rest) = front ++ byte ∷ rest

-- the words of a line: what stands between its spaces
abbrev pub words_of : List ℕ → List (List ℕ)
words_of line = slice_split (λ b. b == 32) line

-- the words of a line that may be absent
abbrev pub words_left : Option (List ℕ) → List (List ℕ)
words_left None = []
words_left (Some line) = words_of line

-- the first word, and the words after it
abbrev pub next_word : List (List ℕ) → Option (List ℕ × List (List ℕ))
next_word [] = None
next_word (word ∷ words) = Some (word, words)

-- no zero stands before other digits
abbrev pub has_no_leading_zero : List ℕ → Bool
has_no_leading_zero [] = false
has_no_leading_zero (digit ∷ digits) = not (digit == 48) || (length digits == 0)

-- the word is a number in decimal digits, without sign and without leading zeros
abbrev pub is_number : List ℕ → Bool
is_number word = all_ascii_digits word && has_no_leading_zero word

-- the number that the word is, if it is one and at most so much
abbrev pub number_of : ℕ → List ℕ → Option ℕ
number_of most word = if is_number word && nat_le (digits_value 10 word) most then Some (digits_value 10 word) else None
