-- What is found of the jobs of a batch.
use Rattle.std.specs.Prelude.{◌≡◌, ◌⊎◌, ℕ, ◌<◌, ◌≤◌, List, length, IfOk, Result, Ok, Err}
use Rattle.std.specs.List.{AllZip}
use Rattle.std.specs.declared.alloc.AllocError.{AllocError}
use Rattle.convoy_streams.specs.declared.reading.ReadFault.TheVariants.{TooLong}
use Rattle.convoy_streams.specs.Jobs.{Job}
use Rattle.convoy_toml.specs.declared.asked.Asked.{Asked}
use Rattle.convoy_toml.specs.Reading.{scenario_of_text_by}
use Rattle.convoy_branch.specs.Options.{Settings}
use Rattle.convoy_commands.specs.declared.done.Done.{Done}
use Rattle.convoy_commands.specs.declared.done.Done.TheVariants as ends
use Rattle.convoy_commands.specs.declared.fault.Fault.{Fault}
use Rattle.convoy_commands.specs.declared.fault.Fault.TheVariants.{Memory, Reading}
use Rattle.convoy_commands.specs.declared.limits.TheConstants.{LONGEST_JOB}
use Rattle.convoy_commands.specs.Measured.{measure_of_text}
use Rattle.convoy_commands.specs.Outsides.{outside_of_text}
use Rattle.convoy_commands.specs.Searches.{IsFaultyBy}
use Rattle.convoy_commands.specs.Verdicts.{judged, target_deadline}
use Rattle.convoy_survey.specs.declared.finding.Finding.{Finding}
use Rattle.convoy_survey.specs.declared.finding.Finding.TheVariants.{Greatest, Open, OutOfMemory}
use Rattle.convoy_survey.specs.Findings.{IsFinding}
use Rattle.convoy_batches.specs.declared.job_row.JobFinding.{JobFinding}
use Rattle.convoy_batches.specs.declared.job_row.JobRow.{JobRow}
use Rattle.convoy_batches.specs.declared.kept_jobs.KeptJob.{KeptJob}
use Rattle.convoy_batches.specs.KeptJobs.{IsKeptJob}

-- A search for the scenario of a text, where that is asked, found that of the latency that is asked there; and times are told, the target has a deadline, and ranges are as sure, as `latency` tells it of the text.
pub record IsSearched (asked : Asked) (settings : Settings) (text : List ℕ) (found : JobFinding) : Type 0 where
  pub read : scenario_of_text_by asked text ≡ Ok found.instance
  pub measured : found.measure ≡ measure_of_text settings.unit text found.instance
  pub deadline : found.deadline ≡ target_deadline asked text found.instance
  pub outside : found.outside ≡ outside_of_text text found.instance
  pub finding : IsFinding settings found.instance found.finding

-- what may be found for a text: by a search, or the fault of the text; or, as with each command, that memory ran out
abbrev pub JobFinds : Asked → Settings → List ℕ → Result JobFinding Fault → Type 0
JobFinds asked settings text (Ok found) = IsSearched asked settings text found
JobFinds asked settings text (Err fault) = IsFaultyBy asked text fault ⊎ (fault ≡ Memory)

-- What may be found of a job, by its own text alone: that it is too long just where it is, and else what may be found for its text.
pub record IsJobFound (asked : Asked) (settings : Settings) (job : Job) (found : Result JobFinding Fault) : Type 0 where
  pub long : LONGEST_JOB < length job.text → found ≡ Err (Reading (TooLong LONGEST_JOB))
  pub short : length job.text ≤ LONGEST_JOB → JobFinds asked settings job.text found

-- the row has the job's label, and what may be found of the job
pub record IsJobRow (asked : Asked) (settings : Settings) (job : Job) (row : JobRow) : Type 0 where
  pub label : row.label.items ≡ job.label
  pub found : IsJobFound asked settings job row.found

-- what may come of a job that was kept: its row, unless there is no memory for that
abbrev pub MayBeRow : Asked → Settings → KeptJob → Result JobRow AllocError → Type 0
MayBeRow asked settings kept answer = (job : Job) → IsKeptJob job kept → IfOk answer (IsJobRow asked settings job)

-- there is a row for each job, in their order
abbrev pub AreJobRows : Asked → Settings → List Job → List JobRow → Type 0
AreJobRows asked settings jobs rows = AllZip (IsJobRow asked settings) jobs rows

-- how the search for a job ended: where its target has a deadline, as the verdict says
abbrev pub end_of_found : JobFinding → Done
end_of_found found = by_finding found.finding where
  by_finding : Finding → Done
  by_finding (Greatest latency cause nodes) = judged found.deadline latency latency ends.Fine
  by_finding (Open least most cause) = judged found.deadline least most ends.Open
  by_finding OutOfMemory = ends.Faulty

-- how the job of a row ended
abbrev pub end_of_row : JobRow → Done
end_of_row row = by_found row.found where
  by_found : Result JobFinding Fault → Done
  by_found (Ok found) = end_of_found found
  by_found (Err fault) = ends.Faulty
