-- What holds of a batch between two bytes, and how it ends early.
use Rattle.std.specs.Prelude.{◌≡◌, ◌⊎◌, ℕ, ◌+◌, ◌<◌, List, length, Result, Ok, Err, MatchResult, IsOk}
use Rattle.convoy_streams.specs.Jobs.{Job, begun, ended_jobs, jobs_of}
use Rattle.convoy_streams.specs.Splitting.{Holds, IsAfter, IsJobStart}
use Rattle.convoy_streams.specs.declared.splitter.Splitter.{Splitter}
use Rattle.convoy_streams.specs.Devices.{Answer, HasRun}
use Rattle.convoy_streams.specs.Writes.{WritesAll, FailsWithin}
use Rattle.convoy_batches.specs.declared.batch.Batch.{Batch}
use Rattle.convoy_batches.specs.declared.limits.TheConstants.{MOST_JOBS}
use Rattle.convoy_commands.specs.declared.done.Done.{Done}
use Rattle.convoy_commands.specs.declared.limits.TheConstants.{LONGEST_JOB}
use Rattle.convoy_commands.specs.declared.fault.Fault.{Fault}
use Rattle.convoy_commands.specs.declared.fault.Fault.TheVariants.{Memory, Write, TooManyJobs}
use Rattle.convoy_batches.specs.Batches.{AnswersMost, EndsSo, FailsAnswering, JobSays, block_of, is_beyond, is_fault, is_open}
use Rattle.convoy_commands.specs.Replies.{Reply, Rule}
use Rattle.convoy_commands.specs.Ends.{end_by, worse}

-- how a job ended, by its reply
abbrev pub end_of : Reply → Done
end_of reply = end_by (is_beyond reply) (is_fault reply) (is_open reply)

-- the block of that number and label for what is to be told, or for want of memory where that was an answer, and how the job so ended
pub record IsBlockFor (number : ℕ) (label : List ℕ) (want : Reply) (end : Done) (out : List ℕ) : Type 0 where
  pub reply : Reply
  pub told : (reply ≡ want) ⊎ (IsOk want × (reply ≡ Err Memory))
  pub end_is : end ≡ end_of reply
  pub block : out ≡ block_of number label reply

-- a block of a job went out, and with the end before it the jobs ended so; or a front of it and then the sink failed
pub record AnswersOne {K : Type 0} (says : Rule) (may_write : K → Answer → K → Type 0) (old new : K)
    (number : ℕ) (before : Done) (job : Job) (result : Result Done Fault) : Type 0 where
  pub reply : Reply
  pub allowed : JobSays says job reply
  pub run : HasRun may_write old new (λ answers. MatchResult result
      (λ end. (end ≡ worse before (end_of reply)) × WritesAll (block_of number job.label reply) answers)
      (λ fault. (fault ≡ Write) × FailsWithin (block_of number job.label reply) answers))

-- the blocks of these jobs have gone out, they ended so, and one more job may come
pub record IsReady {K : Type 0} (says : Rule) (may_write : K → Answer → K → Type 0) (start now : K)
    (jobs : List Job) (number : ℕ) (end : Done) : Type 0 where
  pub wrote : HasRun may_write start now (λ answers. EndsSo says jobs answers end)
  pub next : number ≡ length jobs + 1
  pub few : length jobs < MOST_JOBS

-- the splitter is at the start of a job with that label, whatever stands before it
pub record IsFresh (label : List ℕ) (splitter : Splitter) : Type 0 where
  pub empty : Holds LONGEST_JOB splitter (begun label)
  pub after : (text : List ℕ) → IsJobStart label text → IsAfter LONGEST_JOB splitter text

-- this text was read, and the blocks of the jobs whose divider had ended have gone out
pub record IsUnderWay {K : Type 0} (says : Rule) (may_write : K → Answer → K → Type 0) (start now : K)
    (text : List ℕ) (batch : Batch) : Type 0 where
  pub ready : IsReady says may_write start now (ended_jobs text) batch.number batch.end
  pub after : IsAfter LONGEST_JOB batch.splitter text

-- how answering ends early where these jobs were read
abbrev pub StopsAnswering : {K : Type 0} → Rule → (K → Answer → K → Type 0) → K → K → List Job → Fault → Type 0
StopsAnswering says may_write start now jobs Write = HasRun may_write start now (FailsAnswering says jobs)
StopsAnswering says may_write start now jobs TooManyJobs = HasRun may_write start now (AnswersMost says jobs)
StopsAnswering says may_write start now jobs other = ⊥

-- how the end of the text ends a batch
abbrev pub EndsBatch : {K : Type 0} → Rule → (K → Answer → K → Type 0) → K → K → List ℕ → Result Done Fault → Type 0
EndsBatch says may_write start now text (Ok end) =
    (length (jobs_of text) < MOST_JOBS + 1) × HasRun may_write start now (λ answers. EndsSo says (jobs_of text) answers end)
EndsBatch says may_write start now text (Err Write) = HasRun may_write start now (FailsAnswering says (jobs_of text))
EndsBatch says may_write start now text (Err TooManyJobs) =
    (MOST_JOBS < length (jobs_of text)) × HasRun may_write start now (AnswersMost says (jobs_of text))
EndsBatch says may_write start now text (Err other) = ⊥
