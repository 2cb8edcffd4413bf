-- What is proved of words and of lines. Each is the one clause of the function of its name in the crate's module `line_laws`.
use Rattle.std.specs.Prelude.{◌≡◌, ℕ, ◌<◌, ◌≤◌, ◌^◌, ◌↔◌, List, [], ◌∷◌, length, decimal, Some, All}
use Rattle.convoy_lines.specs.Labels.{greatest_number, words_after, number_in}
use Rattle.convoy_lines.specs.Places.{lines_in}
use Rattle.convoy_lines.specs.Texts.{line_of, number_line, text_of}
use Rattle.convoy_lines.specs.Words.{Lacks, words_of, number_of}

-- a word: one byte or more, none of them a space or byte 10
pub record IsWord (word : List ℕ) : Type 0 where
  pub some : 0 < length word
  pub spaceless : Lacks 32 word
  pub endless : Lacks 10 word

-- a line: bytes, none of them byte 10
abbrev pub IsLine : List ℕ → Type 0
IsLine line = Lacks 10 line

-- up to a limit of 64 bits, the word that is read as a number is the number in decimal digits, and no other word is read as it
abbrev pub NumbersAreDecimals : Type 0
NumbersAreDecimals =
    (most : ℕ) (word : List ℕ) (number : ℕ)
    → most < 2 ^ 64
    → (number_of most word ≡ Some number) ↔ ((word ≡ decimal number) × (number ≤ most))

-- a number of 64 bits in decimal digits is a word
abbrev pub DecimalsAreWords : Type 0
DecimalsAreWords = (number : ℕ) → number < 2 ^ 64 → IsWord (decimal number)

-- the words read from a line, with one space between them, are the line again; and words are read from the line that they make
abbrev pub WordsOfLines : Type 0
WordsOfLines =
    (line word : List ℕ) (words : List (List ℕ))
    → (words_of line ≡ word ∷ words → line ≡ line_of word words)
    × (All IsWord (word ∷ words) → line ≡ line_of word words → words_of line ≡ word ∷ words)

-- words with one space between them make a line
abbrev pub WordsMakeLines : Type 0
WordsMakeLines =
    (word : List ℕ) (words : List (List ℕ)) → All IsWord (word ∷ words) → IsLine (line_of word words)

-- the words read after a label, with the label before them, are the line again; and words are read after the label of the line that they make with it
abbrev pub LabelledLines : Type 0
LabelledLines =
    (label line : List ℕ) (words : List (List ℕ))
    → (words_after label line ≡ Some words → line ≡ line_of label words)
    × (All IsWord (label ∷ words) → line ≡ line_of label words → words_after label line ≡ Some words)

-- the line LABEL NUMBER is read as its number, where the number has 32 bits, and no other line is read as it
abbrev pub NumberLines : Type 0
NumberLines =
    (label line : List ℕ) (number : ℕ)
    → IsWord label
    → (number_in label line ≡ Some number) ↔ ((line ≡ number_line label number) × (number ≤ greatest_number))

-- a text has these lines and nothing after them just where it is these lines in a row, each ended by byte 10, and none of them has a byte 10 in it
abbrev pub LinesOfTexts : Type 0
LinesOfTexts =
    (text : List ℕ) (lines : List (List ℕ))
    → (lines_in text ≡ record { ended = lines; rest = [] }) ↔ ((text ≡ text_of lines) × All IsLine lines)
