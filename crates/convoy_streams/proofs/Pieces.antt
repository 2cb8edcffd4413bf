-- Runs of calls that all moved pieces, and how they go on and end.
use Rattle.std.proofs.Common.{◌≡◌, ℕ, zero, suc, ◌+◌, ◌-◌, ◌<◌, ◌≤◌, List, [], ◌∷◌, ◌++◌, length, take, drop, ap, ◌∙◌, arith, refl, length-append, take-append-drop}
use Rattle.std.specs.List.{FoldsTo, All}
use Rattle.std.proofs.lemmas.Grind.{flat_map-append}
use Rattle.std.proofs.lemmas.List.{append-nil, take_rest}
use Rattle.std.proofs.lemmas.List.Elements.{All-push, All-nil}
use Rattle.std.proofs.lemmas.Fn.{FoldsTo-push}
use Rattle.convoy_streams.specs.Devices.{Answer, Moved, Failed, IsPiece, joined, moved_or_failed, HasRun}
use Rattle.convoy_streams.specs.StreamLaws.{PiecesGoOn}
use Rattle.convoy_streams.specs.Reads.{ArePieces, ReadsText, FailsReading, ReadsTooMuch}
use Rattle.convoy_streams.specs.Writes.{FailsWithin, WritesPiece}

-- so many calls led from the one state to the other, and each moved a piece of the bytes
pub record MovesPieces {S : Type 0} (step : S → Answer → S → Type 0) (old : S) (bytes : List ℕ) (count : ℕ) (new : S) : Type 0 where
  pub answers : List Answer
  pub calls : FoldsTo step old answers new
  pub each : All IsPiece answers
  pub whole : joined answers ≡ bytes
  pub made : length answers ≡ count

-- no call yet
pub no_pieces : {S : Type 0} (step : S → Answer → S → Type 0) (s : S) → MovesPieces step s [] 0 s
no_pieces step s = record { answers = []; calls = refl; each = All-nil IsPiece; whole = refl; made = refl }

-- some bytes that were moved make a piece
piece : (bytes : List ℕ) → 0 < length bytes → IsPiece (Moved bytes)
piece [] more = absurd (omega arith)
piece (b ∷ bytes) more = tt

-- all bytes with those of one answer more
joined_push : (answers : List Answer) (bytes : List ℕ) → joined (answers ++ Moved bytes ∷ []) ≡ joined answers ++ bytes
joined_push answers bytes = rw (flat_map-append, append-nil) refl

-- pieces, and some bytes more
pub pieces_go_on : PiecesGoOn
pieces_go_on answers bytes each some = (All-push IsPiece answers (Moved bytes) each (piece bytes some), joined_push answers bytes)

-- one more piece
pub one_more_piece : {S : Type 0} (step : S → Answer → S → Type 0) (old mid new : S) (bytes more : List ℕ) (count : ℕ) →
    MovesPieces step old bytes count mid → step mid (Moved more) new → 0 < length more →
    MovesPieces step old (bytes ++ more) (count + 1) new
one_more_piece step old mid new bytes more count p moved some = record {
  answers = p.answers ++ Moved more ∷ [];
  calls = FoldsTo-push step old p.answers mid (Moved more) new p.calls moved;
  each = All-push IsPiece p.answers (Moved more) p.each (piece more some);
  whole = rw (joined_push, p.whole) refl;
  made = omega (arith, length-append p.answers (Moved more ∷ []), p.made);
}

-- one write that took some of the bytes
pub one_write : {S : Type 0} (writes : S → Answer → S → Type 0) (old new : S) (bytes : List ℕ) (count : ℕ) →
    writes old (moved_or_failed (take count bytes)) new → 0 < count → count ≤ length bytes →
    WritesPiece writes old bytes (take (length bytes - count) (drop count bytes)) new
one_write writes old new bytes zero moved some within = absurd (omega arith)
one_write writes old new [] (suc count) moved some within = absurd (omega arith)
one_write writes old new (b ∷ bytes) (suc count) moved some within = record {
  piece = b ∷ take count bytes;
  moved = moved;
  some = omega arith;
  whole = ap (λ rest. b ∷ take count bytes ++ rest) (take_rest (b ∷ bytes) (suc count)) ∙ take-append-drop (suc count) (b ∷ bytes);
}

-- the device failed, and there was more to write
pub failed_writing : {S : Type 0} (step : S → Answer → S → Type 0) (old mid new : S) (bytes rest text : List ℕ) (count : ℕ) →
    MovesPieces step old bytes count mid → step mid Failed new → bytes ++ rest ≡ text → 0 < length rest →
    HasRun step old new (FailsWithin text)
failed_writing step old mid new bytes rest text count p failed is more = record {
  answers = p.answers ++ Failed ∷ [];
  calls = FoldsTo-push step old p.answers mid Failed new p.calls failed;
  says = record { pieces = p.answers; rest = rest; last = refl; each = p.each; front = rw p.whole is; more = more };
}

-- How reading ends: the pieces so far are within the limit, and one more call was made of those that may be.
module _ {S : Type 0} (step : S → Answer → S → Type 0) (old mid new : S) (bytes : List ℕ) (count most_reads longest : ℕ)
    (p : MovesPieces step old bytes count mid) (short : length bytes ≤ longest) (below : count < most_reads) where
  given : ArePieces longest p.answers
  given = record { each = p.each; short = rw p.whole short }

  ended : (Says : List Answer → Type 0) (answer : Answer) → step mid answer new → Says (p.answers ++ answer ∷ []) →
      HasRun step old new (λ answers. (length answers ≤ most_reads) × Says answers)
  ended Says answer moved says = record {
    answers = p.answers ++ answer ∷ [];
    calls = FoldsTo-push step old p.answers mid answer new p.calls moved;
    says = (omega (arith, length-append p.answers (answer ∷ []), p.made), says);
  }

  -- with the end of the input
  pub ended_by_text : (more : List ℕ) → step mid (Moved more) new → length more ≡ 0 →
      HasRun step old new (λ answers. (length answers ≤ most_reads) × ReadsText longest answers bytes)
  ended_by_text (b ∷ more) moved none = absurd (omega arith)
  ended_by_text [] moved none =
      ended (λ answers. ReadsText longest answers bytes) (Moved []) moved
      (record { pieces = p.answers; end = refl; given = given; whole = p.whole })

  -- with a failure of the device
  pub ended_by_failure : step mid Failed new → HasRun step old new (λ answers. (length answers ≤ most_reads) × FailsReading longest answers)
  ended_by_failure failed = ended (FailsReading longest) Failed failed (record { pieces = p.answers; last = refl; given = given })

  -- with the first byte past the limit, which is told
  pub ended_by_length : (more : List ℕ) → step mid (Moved more) new → longest < length bytes + length more →
      HasRun step old new (λ answers. (length answers ≤ most_reads) × ((longest ≡ longest) × ReadsTooMuch longest answers))
  ended_by_length more moved long =
      ended (λ answers. (longest ≡ longest) × ReadsTooMuch longest answers) (Moved more) moved (
        refl,
        record {
          pieces = p.answers;
          bytes = more;
          last = refl;
          given = given;
          long = rw (joined_push, p.whole, length-append) long;
        },
      )

  -- with memory refused for the last piece, which is within the limit too
  pub ended_by_memory : (more : List ℕ) → step mid (Moved more) new → 0 < length more → length bytes + length more ≤ longest →
      HasRun step old new (λ answers. (length answers ≤ most_reads) × ArePieces longest answers)
  ended_by_memory more moved some within =
      ended (ArePieces longest) (Moved more) moved
      (record {
        each = All-push IsPiece p.answers (Moved more) p.each (piece more some);
        short = rw (joined_push, p.whole, length-append) within;
      })
