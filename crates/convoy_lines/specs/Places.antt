-- The lines of a text, and where a reader of them stands.
use Rattle.std.specs.Prelude.{ℕ, ◌+◌, ◌==◌, Bool, ◌&&◌, if◌then◌else◌, List, [], ◌∷◌, length, Option, Some, None}

-- a text: the lines that are ended by byte 10, and what follows the last of them
pub record Lines : Type 0 where
  pub ended : List (List ℕ)
  pub rest : List ℕ

-- a byte, not 10, put in front of a text
abbrev pub in_front : ℕ → List (List ℕ) → List ℕ → Lines
in_front byte [] rest = record { ended = []; rest = byte ∷ rest }
in_front byte (line ∷ lines) rest = record { ended = (byte ∷ line) ∷ lines; rest = rest }

-- a byte put in front of a text
abbrev pub with_byte : ℕ → Lines → Lines
with_byte byte lines = if byte == 10 then record { ended = [] ∷ lines.ended; rest = lines.rest } else in_front byte lines.ended lines.rest

-- the lines of a text
abbrev pub lines_in : List ℕ → Lines
lines_in [] = record { ended = []; rest = [] }
lines_in (byte ∷ bytes) = with_byte byte (lines_in bytes)

-- where a reader stands: what is left, and the number of the next line
pub record Place : Type 0 where
  pub ended : List (List ℕ)
  pub rest : List ℕ
  pub number : ℕ

-- the place before a text whose first line has this number
abbrev pub place_before : List ℕ → ℕ → Place
place_before text number = record { ended = (lines_in text).ended; rest = (lines_in text).rest; number = number }

-- the next line, if it is there and ended
abbrev pub line_at : Place → Option (List ℕ)
line_at place = first place.ended where
  first : List (List ℕ) → Option (List ℕ)
  first [] = None
  first (line ∷ lines) = Some line

-- the place after the next line, or the same place where there is no ended line
abbrev pub past_line : Place → Place
past_line place = past place.ended where
  past : List (List ℕ) → Place
  past [] = place
  past (line ∷ lines) = record { ended = lines; rest = place.rest; number = place.number + 1 }

-- what comes next: a line, ended or not
abbrev pub upcoming : Place → List ℕ
upcoming place = first place.ended where
  first : List (List ℕ) → List ℕ
  first [] = place.rest
  first (line ∷ lines) = line

-- nothing is left
abbrev pub is_at_end : Place → Bool
is_at_end place = (length place.ended == 0) && (length place.rest == 0)
