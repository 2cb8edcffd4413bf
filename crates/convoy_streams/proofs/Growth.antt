-- How a text that goes on changes its lines and its jobs.
use Rattle.std.proofs.Common.{◌≡◌, ℕ, ◌==◌, Bool, true, false, cond, if◌then◌else◌, List, [], ◌∷◌, ◌++◌, refl, ap, sym, ◌∙◌, append_assoc}
use Rattle.std.proofs.lemmas.Grind.{fold-append}
use Rattle.std.proofs.lemmas.List.{append-nil}
use Rattle.convoy_lines.specs.Places.{Lines, in_front, lines_in}
use Rattle.convoy_lines.specs.Texts.{ended}
use Rattle.convoy_streams.specs.Jobs.{Divided, Job, Progress, after_bytes, after_divider, after_line, ended_jobs, is_divider, label_in, names, progress_in, progress_of, undivided}

-- a byte put in front, and a byte put at the end, which may be byte 10
abbrev put_byte : Bool → ℕ → Lines → Lines
put_byte ends byte lines = cond ends (record { ended = [] ∷ lines.ended; rest = lines.rest }) (in_front byte lines.ended lines.rest)

abbrev pub lines_then : Bool → ℕ → Lines → Lines
lines_then true byte lines = record { ended = lines.ended ++ lines.rest ∷ []; rest = [] }
lines_then false byte lines = record { ended = lines.ended; rest = lines.rest ++ byte ∷ [] }

bytes_commute : (x b : ℕ) (s t : Bool) (lines : List (List ℕ)) (rest : List ℕ) →
    put_byte s x (lines_then t b (record { ended = lines; rest = rest })) ≡ lines_then t b (put_byte s x (record { ended = lines; rest = rest }))
bytes_commute x b true true lines rest = refl
bytes_commute x b true false lines rest = refl
bytes_commute x b false true [] rest = refl
bytes_commute x b false true (line ∷ lines) rest = refl
bytes_commute x b false false [] rest = refl
bytes_commute x b false false (line ∷ lines) rest = refl

one_byte : (b : ℕ) (t : Bool) → put_byte t b (record { ended = []; rest = [] }) ≡ lines_then t b (record { ended = []; rest = [] })
one_byte b true = refl
one_byte b false = refl

lines_push : (text : List ℕ) (b : ℕ) → lines_in (text ++ b ∷ []) ≡ lines_then (b == 10) b (lines_in text)
lines_push [] b = one_byte b (b == 10)
lines_push (x ∷ text) b =
    ap (put_byte (x == 10) x) (lines_push text b)
    ∙ bytes_commute x b (x == 10) (b == 10) (lines_in text).ended (lines_in text).rest

-- a byte after the text, which may be byte 10
abbrev pub progress_then : Bool → ℕ → Progress → Progress
progress_then true byte p = record { so_far = after_line p.so_far p.line; line = [] }
progress_then false byte p = record { so_far = p.so_far; line = p.line ++ byte ∷ [] }

lines_end : (s : Bool) (b : ℕ) (lines : Lines) → progress_in (lines_then s b lines) ≡ progress_then s b (progress_in lines)
lines_end true b lines =
    let at_start : Divided → Progress = λ d. record { so_far = d; line = [] } in
    ap at_start (fold-append after_line undivided lines.ended (lines.rest ∷ []))
lines_end false b lines = refl

-- how far a text has come with one more byte
pub progress_push : (text : List ℕ) (b : ℕ) → progress_of (text ++ b ∷ []) ≡ progress_then (b == 10) b (progress_of text)
progress_push text b = ap progress_in (lines_push text b) ∙ lines_end (b == 10) b (lines_in text)

-- jobs that are added to those that have ended
abbrev added : List Job → List Job → Type 0
added old new = (jobs : List Job) × (new ≡ old ++ jobs)

grown_by_divider : (named : Bool) (d : Divided) → added d.jobs (if named then d.jobs else d.jobs ++ d.last ∷ [])
grown_by_divider true d = ([], sym (append-nil d.jobs))
grown_by_divider false d = (d.last ∷ [], refl)

grown_by_line : (divides : Bool) (line : List ℕ) (d : Divided) →
    added d.jobs (if divides then after_divider (label_in line) d else after_bytes (ended line) d).jobs
grown_by_line true line d = grown_by_divider (names (label_in line) d.last) d
grown_by_line false line d = ([], sym (append-nil d.jobs))

grown_by : (s : Bool) (b : ℕ) (p : Progress) → added p.so_far.jobs (progress_then s b p).so_far.jobs
grown_by true b p = grown_by_line (is_divider p.line) p.line p.so_far
grown_by false b p = ([], sym (append-nil p.so_far.jobs))

-- jobs that have ended stay
pub ended_stay : (text more : List ℕ) → (jobs : List Job) × (ended_jobs (text ++ more) ≡ ended_jobs text ++ jobs)
ended_stay text [] = ([], ap ended_jobs (append-nil text) ∙ sym (append-nil (ended_jobs text)))
ended_stay text (b ∷ more) =
    let first = grown_by (b == 10) b (progress_of text) in
    let others = ended_stay (text ++ b ∷ []) more in
    let one : ended_jobs (text ++ b ∷ []) ≡ ended_jobs text ++ first.0 = ap (λ p. p.so_far.jobs) (progress_push text b) ∙ first.1 in (
      first.0 ++ others.0,
      ap ended_jobs (sym (append_assoc text (b ∷ []) more)) ∙ others.1 ∙ ap (λ jobs. jobs ++ others.0) one ∙ append_assoc (ended_jobs text) first.0 others.0,
    )
