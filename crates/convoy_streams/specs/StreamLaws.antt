-- What is proved of calls and of jobs. Each is the one clause of the function of its name in the crate's module `stream_laws`.
use Rattle.std.specs.Prelude.{◌≡◌, ℕ, ◌<◌, List, [], ◌∷◌, ◌++◌, length, All}
use Rattle.convoy_streams.specs.Jobs.{Job, ended_jobs}
use Rattle.convoy_streams.specs.Devices.{Answer, Moved, IsPiece, joined}

-- If each call moved a piece, and one call more moves some bytes, then each has moved a piece, and together they moved what was moved before and then those bytes.
abbrev pub PiecesGoOn : Type 0
PiecesGoOn =
    (answers : List Answer) (bytes : List ℕ) → All IsPiece answers → 0 < length bytes
    → All IsPiece (answers ++ Moved bytes ∷ []) × (joined (answers ++ Moved bytes ∷ []) ≡ joined answers ++ bytes)

-- a job that a divider has ended stays as it is, however the text goes on
abbrev pub EndedJobsStay : Type 0
EndedJobsStay = (text more : List ℕ) → (jobs : List Job) × (ended_jobs (text ++ more) ≡ ended_jobs text ++ jobs)
