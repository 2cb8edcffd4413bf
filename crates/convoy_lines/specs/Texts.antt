-- Lines and texts as they are written.
use Rattle.std.specs.Prelude.{ℕ, List, [], ◌∷◌, ◌++◌, decimal}
use Rattle.std.specs.List.{flat_map}

-- a further word of a line, after one space
abbrev pub spaced : List ℕ → List ℕ
spaced word = 32 ∷ word

-- a line: its first word, and each further word after one space
abbrev pub line_of : List ℕ → List (List ℕ) → List ℕ
line_of word words = word ++ flat_map spaced words

-- the line LABEL NUMBER
abbrev pub number_line : List ℕ → ℕ → List ℕ
number_line label number = line_of label (decimal number ∷ [])

-- a line and the byte 10 that ends it
abbrev pub ended : List ℕ → List ℕ
ended line = line ++ 10 ∷ []

-- lines in a row, each ended
abbrev pub text_of : List (List ℕ) → List ℕ
text_of lines = flat_map ended lines
