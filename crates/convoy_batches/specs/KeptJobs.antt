-- The jobs of a text that were kept, each by itself.
use Rattle.std.specs.Prelude.{◌≡◌, ℕ, ◌≤◌, List, Vec, length, Result, Ok, Err}
use Rattle.std.specs.List.{AllZip}
use Rattle.std.specs.declared.alloc.Global.{Global}
use Rattle.convoy_streams.specs.declared.splitter.JobFault.{JobFault}
use Rattle.convoy_streams.specs.Jobs.{Job}
use Rattle.convoy_streams.specs.Splitting.{IsJobFault}
use Rattle.convoy_commands.specs.declared.limits.TheConstants.{LONGEST_JOB}
use Rattle.convoy_batches.specs.declared.kept_jobs.KeptJob.{KeptJob}

-- the text of a job was kept, unless that has more bytes than may be, or memory ran out
abbrev pub IsKeptText : List ℕ → Result (Vec ℕ Global) JobFault → Type 0
IsKeptText text (Ok kept) = (kept.items ≡ text) × (length text ≤ LONGEST_JOB)
IsKeptText text (Err fault) = IsJobFault LONGEST_JOB text fault

-- The job was kept, with its label.
pub record IsKeptJob (job : Job) (kept : KeptJob) : Type 0 where
  pub label : kept.label.items ≡ job.label
  pub text : IsKeptText job.text kept.text

-- each job was, in their order
abbrev pub AreKeptJobs : List Job → List KeptJob → Type 0
AreKeptJobs jobs kept = AllZip IsKeptJob jobs kept
