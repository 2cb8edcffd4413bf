-- The jobs of a text: what stands between the lines that divide them.
use Rattle.std.specs.Prelude.{ℕ, ◌==◌, nat_le, Bool, true, false, not, ◌&&◌, if◌then◌else◌, List, [], ◌∷◌, ◌++◌, length}
use Rattle.std.specs.List.{fold, list_all}
use Rattle.convoy_lines.specs.Places.{Lines, lines_in}
use Rattle.convoy_lines.specs.Texts.{ended}
use Rattle.convoy_streams.specs.declared.label.TheConstants.{LONGEST_LABEL}

-- a byte that a label may have: a character of ASCII that shows, `!` to `~`
abbrev pub is_label_byte : ℕ → Bool
is_label_byte byte = nat_le 33 byte && nat_le byte 126

-- such bytes, as many as a label may have
abbrev pub may_be_label : List ℕ → Bool
may_be_label bytes = list_all is_label_byte bytes && nat_le (length bytes) LONGEST_LABEL

-- a label has a byte at least
abbrev pub is_label : List ℕ → Bool
is_label [] = false
is_label (first ∷ others) = may_be_label (first ∷ others)

-- what may stand after the dashes of a divider: nothing, or a space and a label
abbrev pub is_label_part : List ℕ → Bool
is_label_part [] = true
is_label_part (space ∷ label) = (space == 32) && is_label label

-- a line that divides jobs is exactly `---`, or `--- LABEL`
abbrev pub is_divider : List ℕ → Bool
is_divider (a ∷ b ∷ c ∷ others) = ((a == 45) && ((b == 45) && (c == 45))) && is_label_part others
is_divider other = false

-- the label in a divider, empty where there is none
abbrev pub label_in : List ℕ → List ℕ
label_in (a ∷ b ∷ c ∷ space ∷ label) = label
label_in other = []

-- a job: its label, which is empty where it has none, and its text
pub record Job : Type 0 where
  pub label : List ℕ
  pub text : List ℕ

-- a job that begins, of which no text has come
abbrev pub begun : List ℕ → Job
begun label = record { label = label; text = [] }

-- a job with more of its text
abbrev pub with_bytes : Job → List ℕ → Job
with_bytes job bytes = record { label = job.label; text = job.text ++ bytes }

-- nothing has come of a job, not even a label
abbrev pub is_blank : Job → Bool
is_blank job = (length job.label == 0) && (length job.text == 0)

-- a divider with this label only names the job
abbrev pub names : List ℕ → Job → Bool
names label job = not (length label == 0) && is_blank job

-- what lines are made of: the jobs that a divider has ended, and the job after those
pub record Divided : Type 0 where
  pub jobs : List Job
  pub last : Job

-- a divider ends the job, unless it only names it; its label is that of the job after it
abbrev pub after_divider : List ℕ → Divided → Divided
after_divider label so_far = record {
  jobs = if names label so_far.last then so_far.jobs else so_far.jobs ++ so_far.last ∷ [];
  last = begun label;
}

-- bytes that belong to the job
abbrev pub after_bytes : List ℕ → Divided → Divided
after_bytes bytes so_far = record { jobs = so_far.jobs; last = with_bytes so_far.last bytes }

-- one line more
abbrev pub after_line : Divided → List ℕ → Divided
after_line so_far line = if is_divider line then after_divider (label_in line) so_far else after_bytes (ended line) so_far

-- before the first line: a job that begins, without a label
abbrev pub undivided : Divided
undivided = record { jobs = []; last = begun [] }

-- lines, divided
abbrev pub divided : List (List ℕ) → Divided
divided lines = fold after_line undivided lines

-- how far a text has come: its lines, divided, and the line that has not ended
pub record Progress : Type 0 where
  pub so_far : Divided
  pub line : List ℕ

abbrev pub progress_in : Lines → Progress
progress_in lines = record { so_far = divided lines.ended; line = lines.rest }

abbrev pub progress_of : List ℕ → Progress
progress_of text = progress_in (lines_in text)

-- the jobs that a divider has ended
abbrev pub ended_jobs : List ℕ → List Job
ended_jobs text = (progress_of text).so_far.jobs

-- what the end of the text makes of its last line: without byte 10 it may be a divider too
abbrev pub at_end : Progress → Divided
at_end progress =
    if is_divider progress.line then after_divider (label_in progress.line) progress.so_far else after_bytes progress.line progress.so_far

abbrev pub all_jobs : Divided → List Job
all_jobs so_far = so_far.jobs ++ so_far.last ∷ []

-- THE JOBS OF A TEXT. The lines that are exactly `---`, or `---`, a space and a label, divide it, and belong to no job. A label is that of the job after it.
-- Where such a line comes first of a job that has no label yet, it only gives it one.
abbrev pub jobs_of : List ℕ → List Job
jobs_of text = all_jobs (at_end (progress_of text))
