-- What reading an input to its end gives, by what the reads answered.
use Rattle.std.specs.Prelude.{◌≡◌, ℕ, ◌<◌, ◌≤◌, List, [], ◌∷◌, ◌++◌, length, All}
use Rattle.convoy_streams.specs.declared.reading.ReadFault.{ReadFault}
use Rattle.convoy_streams.specs.declared.reading.ReadFault.TheVariants.{Memory, Read, TooLong, TooManyReads}
use Rattle.convoy_streams.specs.Devices.{Answer, Moved, Failed, IsPiece, joined}

-- each read gave a piece, and all together they are no longer than the input may be
pub record ArePieces (longest : ℕ) (answers : List Answer) : Type 0 where
  pub each : All IsPiece answers
  pub short : length (joined answers) ≤ longest

-- the reads gave pieces, which joined are the text, and then the end
pub record ReadsText (longest : ℕ) (answers : List Answer) (text : List ℕ) : Type 0 where
  pub pieces : List Answer
  pub end : answers ≡ pieces ++ Moved [] ∷ []
  pub given : ArePieces longest pieces
  pub whole : joined pieces ≡ text

-- the reads gave pieces, and the last one failed
pub record FailsReading (longest : ℕ) (answers : List Answer) : Type 0 where
  pub pieces : List Answer
  pub last : answers ≡ pieces ++ Failed ∷ []
  pub given : ArePieces longest pieces

-- the reads gave pieces, and the last one the first byte past the limit
pub record ReadsTooMuch (longest : ℕ) (answers : List Answer) : Type 0 where
  pub pieces : List Answer
  pub bytes : List ℕ
  pub last : answers ≡ pieces ++ Moved bytes ∷ []
  pub given : ArePieces longest pieces
  pub long : longest < length (joined answers)

-- With which fault reading stops before it has a text, where the input has at most so many bytes and
-- at most so many reads are made.
abbrev pub StopsReading : ℕ → ℕ → List Answer → ReadFault → Type 0
StopsReading longest most_reads answers Read = FailsReading longest answers
-- the fault tells the limit that the input exceeds
StopsReading longest most_reads answers (TooLong limit) = (limit ≡ longest) × ReadsTooMuch longest answers
-- as many reads as there may be gave pieces, and none the end
StopsReading longest most_reads answers TooManyReads = ArePieces longest answers × (length answers ≡ most_reads)
-- memory ran out at the last piece
StopsReading longest most_reads answers Memory = ArePieces longest answers
