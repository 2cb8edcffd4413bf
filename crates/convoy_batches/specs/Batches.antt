-- What a batch writes: a block for each job of its text, in their order.
use Rattle.std.specs.Prelude.{◌≡◌, ◌⊎◌, ℕ, ◌+◌, ◌<◌, ◌≤◌, Bool, true, false, List, [], ◌∷◌, ◌++◌, length, All, codes, decimal, Result, Ok, Err}
use Rattle.std.specs.List.{FoldsTo, list_any}
use Rattle.convoy_lines.specs.Texts.{ended, line_of}
use Rattle.convoy_streams.specs.declared.reading.ReadFault.TheVariants.{Read, TooLong, TooManyReads}
use Rattle.convoy_streams.specs.Jobs.{Job, ended_jobs, jobs_of}
use Rattle.convoy_streams.specs.Devices.{Answer, Moved, Failed, IsPiece, joined}
use Rattle.convoy_streams.specs.Writes.{WritesAll, FailsWithin}
use Rattle.convoy_batches.specs.declared.limits.TheConstants.{MOST_JOBS}
use Rattle.convoy_commands.specs.declared.limits.TheConstants.{LONGEST_JOB}
use Rattle.convoy_commands.specs.declared.done.Done.TheVariants.{Fine, Open, Beyond}
use Rattle.convoy_commands.specs.declared.done.Done.{Done}
use Rattle.convoy_commands.specs.declared.fault.Fault.{Fault}
use Rattle.convoy_commands.specs.declared.fault.Fault.TheVariants.{Memory, Reading, Write, TooManyJobs}
use Rattle.convoy_commands.specs.Faults.{fault_line_of}
use Rattle.convoy_commands.specs.Replies.{Reply, Rule, SaysUnlessMemory}
use Rattle.convoy_commands.specs.Ends.{end_by}

-- What may be answered for a job, by its own text alone: that it is too long just where it is, and else what the rule of its text allows, unless memory ran out. The rule is that of `latency`.
pub record JobSays (says : Rule) (job : Job) (reply : Reply) : Type 0 where
  pub long : LONGEST_JOB < length job.text → reply ≡ Err (Reading (TooLong LONGEST_JOB))
  pub short : length job.text ≤ LONGEST_JOB → SaysUnlessMemory says job.text reply

-- a label as the further words of a line: none where it is empty
abbrev pub label_words : List ℕ → List (List ℕ)
label_words [] = []
label_words (first ∷ others) = (first ∷ others) ∷ []

-- the first line of a block: the number of the job, and its label where it has one
abbrev pub job_line : ℕ → List ℕ → List ℕ
job_line number label = ended (line_of (codes "job") (decimal number ∷ label_words label))

-- what a reply writes, a fault its line
abbrev pub reply_text : Reply → List ℕ
reply_text (Ok (done, out)) = out
reply_text (Err fault) = fault_line_of fault

-- the block of the job of that number and label
abbrev pub block_of : ℕ → List ℕ → Reply → List ℕ
block_of number label reply = job_line number label ++ reply_text reply

-- the blocks of jobs in a row, the first of that number
abbrev pub blocks_from : ℕ → List Job → List Reply → List ℕ
blocks_from number [] replies = []
blocks_from number (job ∷ jobs) [] = []
blocks_from number (job ∷ jobs) (reply ∷ replies) = block_of number job.label reply ++ blocks_from (number + 1) jobs replies

-- each job has its reply
abbrev pub AreReplies : Rule → List Job → List Reply → Type 0
AreReplies says [] [] = Unit {0}
AreReplies says [] (reply ∷ replies) = ⊥
AreReplies says (job ∷ jobs) [] = ⊥
AreReplies says (job ∷ jobs) (reply ∷ replies) = JobSays says job reply × AreReplies says jobs replies

-- the reply is an answer beyond its deadline
abbrev pub is_beyond : Reply → Bool
is_beyond (Ok (Beyond, out)) = true
is_beyond other = false

-- the reply tells a fault; `latency` never answers that a certificate is refused or is not checked
abbrev pub is_fault : Reply → Bool
is_fault (Ok (Fine, out)) = false
is_fault (Ok (Open, out)) = false
is_fault (Ok (Beyond, out)) = false
is_fault other = true

-- the reply is an open answer
abbrev pub is_open : Reply → Bool
is_open (Ok (Open, out)) = true
is_open other = false

-- THE END OF A BATCH: one of its jobs is beyond its deadline; or else one has a fault; or else the answer for one is open; or else all are exact, or keep their deadlines.
abbrev pub end_of_jobs : List Reply → Done
end_of_jobs replies = end_by (list_any is_beyond replies) (list_any is_fault replies) (list_any is_open replies)

-- the blocks of these jobs went out, from job 1 on
pub record AnswersAll (says : Rule) (jobs : List Job) (writes : List Answer) : Type 0 where
  pub replies : List Reply
  pub allowed : AreReplies says jobs replies
  pub written : WritesAll (blocks_from 1 jobs replies) writes

-- they went out, and the jobs ended so
pub record EndsSo (says : Rule) (jobs : List Job) (writes : List Answer) (end : Done) : Type 0 where
  pub answered : AnswersAll says jobs writes
  pub end_is : end ≡ end_of_jobs answered.replies

-- a front of the blocks of the first of these jobs went out, and then the sink failed
pub record FailsAnswering (says : Rule) (jobs : List Job) (writes : List Answer) : Type 0 where
  pub first : List Job
  pub others : List Job
  pub front : first ++ others ≡ jobs
  pub few : length first ≤ MOST_JOBS
  pub replies : List Reply
  pub allowed : AreReplies says first replies
  pub written : FailsWithin (blocks_from 1 first replies) writes

-- the blocks of the first of these jobs went out, as many as there may be
pub record AnswersMost (says : Rule) (jobs : List Job) (writes : List Answer) : Type 0 where
  pub first : List Job
  pub others : List Job
  pub front : first ++ others ≡ jobs
  pub most : length first ≡ MOST_JOBS
  pub answered : AnswersAll says first writes

-- the reads gave this, piece by piece, and not the end
pub record ReadsOn (reads : List Answer) (text : List ℕ) : Type 0 where
  pub each : All IsPiece reads
  pub whole : joined reads ≡ text

-- the reads gave this, and then one more answer
pub record ReadsThen (answer : Answer) (reads : List Answer) (text : List ℕ) : Type 0 where
  pub pieces : List Answer
  pub last : reads ≡ pieces ++ answer ∷ []
  pub given : ReadsOn pieces text

-- the reads gave this text, and then its end
abbrev pub ReadsAll : List Answer → List ℕ → Type 0
ReadsAll = ReadsThen (Moved [])

-- the last read alone shows that there are too many jobs
pub record ShowsTooMany (says : Rule) (reads writes : List Answer) : Type 0 where
  pub bytes : List ℕ
  pub before : List ℕ
  pub last : ReadsThen (Moved bytes) reads before
  pub few : length (ended_jobs before) < MOST_JOBS
  pub outcome : ((text : List ℕ) × ReadsOn reads text × AnswersMost says (ended_jobs text) writes)
      ⊎ ((text : List ℕ) × ReadsAll reads text × (MOST_JOBS < length (jobs_of text)) × AnswersMost says (jobs_of text) writes)

-- What a run gives, by the rule of the texts of its jobs, and by what its reads and its writes answered, where at most so many reads are made.
abbrev pub BatchRunsTo : Rule → ℕ → List Answer → List Answer → Result Done Fault → Type 0
-- the text was read, and the blocks of all its jobs went out, which ended so
BatchRunsTo says most_reads reads writes (Ok end) =
    (text : List ℕ) × ReadsAll reads text × (length (jobs_of text) ≤ MOST_JOBS) × EndsSo says (jobs_of text) writes end
-- the blocks of the jobs whose divider had ended went out, and then a read failed
BatchRunsTo says most_reads reads writes (Err (Reading Read)) =
    (text : List ℕ) × ReadsThen Failed reads text × (length (ended_jobs text) < MOST_JOBS) × AnswersAll says (ended_jobs text) writes
-- they went out, and as many reads as there may be gave no end
BatchRunsTo says most_reads reads writes (Err (Reading TooManyReads)) =
    (text : List ℕ) × ReadsOn reads text × (length reads ≡ most_reads) × (length (ended_jobs text) < MOST_JOBS) × AnswersAll says (ended_jobs text) writes
-- one job more than there may be begins: the blocks of those before it went out
BatchRunsTo says most_reads reads writes (Err TooManyJobs) = ShowsTooMany says reads writes
-- the sink failed within a block of what had been read
BatchRunsTo says most_reads reads writes (Err Write) =
    (text : List ℕ)
    × ((ReadsOn reads text × FailsAnswering says (ended_jobs text) writes) ⊎ (ReadsAll reads text × FailsAnswering says (jobs_of text) writes))
-- there was no memory for a block, before all else
BatchRunsTo says most_reads reads writes (Err Memory) = (reads ≡ []) × (writes ≡ [])
BatchRunsTo says most_reads reads writes (Err fault) = ⊥

-- Over a source and a sink that may answer so, from their old states to their new ones, there is
-- a run of a batch that gives this result, where the texts of its jobs have that rule.
pub record IsBatchRun {S K : Type 0} (says : Rule) (most_reads : ℕ)
    (may_read : S → Answer → S → Type 0) (may_write : K → Answer → K → Type 0)
    (source new_source : S) (sink new_sink : K) (result : Result Done Fault) : Type 0 where
  pub reads : List Answer
  pub writes : List Answer
  pub read : FoldsTo may_read source reads new_source
  pub few : length reads ≤ most_reads
  pub wrote : FoldsTo may_write sink writes new_sink
  pub outcome : BatchRunsTo says most_reads reads writes result
