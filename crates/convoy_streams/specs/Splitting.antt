-- What a splitter has of the text that it has taken so far.
use Rattle.std.specs.Prelude.{◌≡◌, ℕ, ◌+◌, ◌<◌, ◌≤◌, Bool, true, false, if◌then◌else◌, List, [], ◌∷◌, ◌++◌, length, Option, Some, None}
use Rattle.convoy_streams.specs.declared.line.Line.{Line}
use Rattle.convoy_streams.specs.declared.line.Line.TheVariants.{Start, Named, Other}
use Rattle.convoy_streams.specs.declared.splitter.JobFault.{JobFault}
use Rattle.convoy_streams.specs.declared.splitter.JobFault.TheVariants.{TooLong, Memory}
use Rattle.convoy_streams.specs.declared.splitter.Splitter.{Splitter}
use Rattle.convoy_streams.specs.Jobs.{Job, Progress, begun, ended_jobs, is_divider, jobs_of, may_be_label, names, progress_of, with_bytes}
use Rattle.convoy_streams.specs.Steps.{front_of}

-- the job is too long just where it has more bytes than may be; memory may run out only for one that is not
abbrev pub IsJobFault : ℕ → List ℕ → JobFault → Type 0
IsJobFault longest job TooLong = longest < length job
IsJobFault longest job Memory = length job ≤ longest

-- what is kept of the text of a job, and how many bytes more it may have
abbrev pub IsKept : ℕ → ℕ → Option JobFault → List ℕ → List ℕ → Type 0
IsKept longest room None kept job = (kept ≡ job) × (length job + room ≡ longest)
IsKept longest room (Some Memory) kept job = length job + room ≡ longest
IsKept longest room (Some TooLong) kept job = (longest < length job) × (room ≡ 0)

-- the splitter has this job, its label and its text, or why that is not at hand
pub record Holds (longest : ℕ) (splitter : Splitter) (job : Job) : Type 0 where
  pub most : splitter.longest ≡ longest
  pub kept : IsKept longest splitter.room splitter.fault splitter.text.items job.text
  pub named : splitter.label.items ≡ job.label

-- The line is the front of a divider, with what has come of its label, or is none however it goes on.
abbrev pub LineIs : Line → List ℕ → List ℕ → Type 0
LineIs Other label line = (label ≡ []) × ((rest : List ℕ) → is_divider (line ++ rest) ≡ false)
LineIs Named label line = (line ≡ front_of Named ++ label) × (may_be_label label ≡ true)
LineIs front label line = (label ≡ []) × (line ≡ front_of front)

-- what is kept of the job under way: its lines, with the one that has not ended where that can be no divider
abbrev pub kept_job : Line → Progress → Job
kept_job Other progress = with_bytes progress.so_far.last progress.line
kept_job front progress = progress.so_far.last

-- the label in the line that is being read, and once a divider has ended that of the job after it
abbrev pub next_label_of : Splitter → List ℕ
next_label_of splitter = splitter.next_label.items

-- the splitter has taken this text
pub record IsAfter (longest : ℕ) (splitter : Splitter) (text : List ℕ) : Type 0 where
  pub line : LineIs splitter.line (next_label_of splitter) (progress_of text).line
  pub held : Holds longest splitter (kept_job splitter.line (progress_of text))

-- nothing has come of the job under way but this label
pub record IsJobStart (label text : List ℕ) : Type 0 where
  pub no_text : (progress_of text).so_far.last ≡ begun label
  pub no_line : (progress_of text).line ≡ []

-- with the next bytes of the text a divider ends, and with it a job, which the splitter has
pub record EndsJob (longest : ℕ) (splitter : Splitter) (text more : List ℕ) : Type 0 where
  pub job : Job
  pub one_more : ended_jobs (text ++ more) ≡ ended_jobs text ++ job ∷ []
  pub start : IsJobStart (next_label_of splitter) (text ++ more)
  pub held : Holds longest splitter job

-- with the next bytes no job ends
pub record GoesOn (longest : ℕ) (splitter : Splitter) (text more : List ℕ) : Type 0 where
  pub none_more : ended_jobs (text ++ more) ≡ ended_jobs text
  pub after : IsAfter longest splitter (text ++ more)

-- The text is over: one job is left, which the splitter has, and after a divider one without text follows it.
pub record Finishes (longest : ℕ) (splitter : Splitter) (text : List ℕ) (divides : Bool) : Type 0 where
  pub job : Job
  pub all : jobs_of text ≡ ended_jobs text ++ job ∷ (if divides then begun (next_label_of splitter) ∷ [] else [])
  pub held : Holds longest splitter job

-- the splitter has a job of which nothing has come but this label, at the start of a line
pub record IsBegun (longest : ℕ) (splitter : Splitter) (label : List ℕ) : Type 0 where
  pub held : Holds longest splitter (begun label)
  pub line : splitter.line ≡ Start
  pub next : next_label_of splitter ≡ []

-- The line is a divider with this label: it ends the job, or it only names it.
abbrev pub DividesJob : ℕ → Splitter → List ℕ → Job → Bool → Type 0
DividesJob longest splitter label job true = (names label job ≡ false) × Holds longest splitter job × (next_label_of splitter ≡ label)
DividesJob longest splitter label job false = (names label job ≡ true) × IsBegun longest splitter label
