-- What writing a text gives, by what the writes answered.
use Rattle.std.specs.Prelude.{◌≡◌, ℕ, ◌<◌, List, [], ◌∷◌, ◌++◌, length, All}
use Rattle.convoy_streams.specs.Devices.{Answer, Moved, Failed, IsPiece, joined}

-- the whole text went out, in pieces
pub record WritesAll (text : List ℕ) (answers : List Answer) : Type 0 where
  pub each : All IsPiece answers
  pub whole : joined answers ≡ text

-- A front of the text went out, in pieces, and then the device failed; there was more to write.
pub record FailsWithin (text : List ℕ) (answers : List Answer) : Type 0 where
  pub pieces : List Answer
  pub rest : List ℕ
  pub last : answers ≡ pieces ++ Failed ∷ []
  pub each : All IsPiece pieces
  pub front : joined pieces ++ rest ≡ text
  pub more : 0 < length rest

-- one write took a piece of the bytes, and this is the rest of them
pub record WritesPiece {S : Type 0} (writes : S → Answer → S → Type 0) (old : S)
    (bytes rest : List ℕ) (new : S) : Type 0 where
  pub piece : List ℕ
  pub moved : writes old (Moved piece) new
  pub some : 0 < length piece
  pub whole : piece ++ rest ≡ bytes
