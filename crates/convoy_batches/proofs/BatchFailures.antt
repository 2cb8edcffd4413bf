-- How many failures the answers of a batch have.
use Rattle.std.proofs.Common.{◌≡◌, ◌⊎◌, ◌<◌, ℕ, List, [], ◌∷◌, length, Ok, Err, inl, inr}
use Rattle.convoy_streams.specs.declared.reading.ReadFault.TheVariants.{Read, TooManyReads}
use Rattle.convoy_streams.specs.Devices.{Answer, Moved, Failed, failures}
use Rattle.convoy_streams.specs.Jobs.{Job, ended_jobs, jobs_of}
use Rattle.convoy_batches.specs.declared.limits.TheConstants.{MOST_JOBS}
use Rattle.convoy_commands.specs.declared.fault.Fault.TheVariants.{Memory, Reading, Write, TooManyJobs}
use Rattle.convoy_commands.specs.Replies.{Rule}
use Rattle.convoy_batches.specs.Batches.{AnswersAll, AnswersMost, FailsAnswering, ReadsAll, ReadsOn, ReadsThen}
use Rattle.convoy_batches.specs.BatchLaws.{BatchFailuresAreTold}
use Rattle.convoy_streams.proofs.FailureCounts.{after_pieces, in_nothing, none_in_pieces}

-- where reads gave pieces, and then perhaps one more answer
in_reads : (reads : List Answer) (text : List ℕ) → ReadsOn reads text → failures reads ≡ 0
in_reads reads text given = none_in_pieces reads given.each

in_reads_then : (last : Answer) (reads : List Answer) (text : List ℕ) → ReadsThen last reads text → failures reads ≡ failures (last ∷ [])
in_reads_then last reads text read = rw read.last (after_pieces read.pieces last read.given.each)

-- where blocks went out, all of them or as many as there may be
in_blocks : (says : Rule) (jobs : List Job) (writes : List Answer) → AnswersAll says jobs writes → failures writes ≡ 0
in_blocks says jobs writes answered = none_in_pieces writes answered.written.each

in_most_blocks : (says : Rule) (reads writes : List Answer) →
    ((text : List ℕ) × ReadsOn reads text × AnswersMost says (ended_jobs text) writes)
    ⊎ ((text : List ℕ) × ReadsAll reads text × (MOST_JOBS < length (jobs_of text)) × AnswersMost says (jobs_of text) writes) →
    failures writes ≡ 0
in_most_blocks says reads writes (inl on) = in_blocks says on.2.first writes on.2.answered
in_most_blocks says reads writes (inr ended) = in_blocks says ended.3.first writes ended.3.answered

-- where the sink failed within one
in_block : (says : Rule) (jobs : List Job) (writes : List Answer) → FailsAnswering says jobs writes → failures writes ≡ 1
in_block says jobs writes failed =
    rw failed.written.last (after_pieces failed.written.pieces Failed failed.written.each)

in_write : (says : Rule) (reads writes : List Answer) (text : List ℕ) →
    (ReadsOn reads text × FailsAnswering says (ended_jobs text) writes) ⊎ (ReadsAll reads text × FailsAnswering says (jobs_of text) writes) →
    (failures reads ≡ 0) × (failures writes ≡ 1)
in_write says reads writes text (inl on) = (in_reads reads text on.0, in_block says (ended_jobs text) writes on.1)
in_write says reads writes text (inr ended) =
    (in_reads_then (Moved []) reads text ended.0, in_block says (jobs_of text) writes ended.1)

pub batch_failures_told : (says : Rule) → BatchFailuresAreTold says
batch_failures_told says most_reads reads writes (Ok end) ran =
    (in_reads_then (Moved []) reads ran.0 ran.1, in_blocks says (jobs_of ran.0) writes ran.3.answered)
batch_failures_told says most_reads reads writes (Err (Reading Read)) ran =
    (in_reads_then Failed reads ran.0 ran.1, in_blocks says (ended_jobs ran.0) writes ran.3)
batch_failures_told says most_reads reads writes (Err (Reading TooManyReads)) ran =
    (in_reads reads ran.0 ran.1, in_blocks says (ended_jobs ran.0) writes ran.4)
batch_failures_told says most_reads reads writes (Err TooManyJobs) ran =
    (in_reads_then (Moved ran.bytes) reads ran.before ran.last, in_most_blocks says reads writes ran.outcome)
batch_failures_told says most_reads reads writes (Err Write) ran = in_write says reads writes ran.0 ran.1
batch_failures_told says most_reads reads writes (Err Memory) ran = (in_nothing reads ran.0, in_nothing writes ran.1)
batch_failures_told says most_reads reads writes (Err other) ran = absurd ran
