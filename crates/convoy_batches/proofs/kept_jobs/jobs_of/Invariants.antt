-- Each job that has ended so far was kept.
use Rattle.std.proofs.Common.{take}
use Rattle.convoy_streams.specs.Jobs.{ended_jobs}
use Rattle.convoy_streams.specs.Splitting.{IsAfter}
use Rattle.convoy_commands.specs.declared.limits.TheConstants.{LONGEST_JOB}
use Rattle.convoy_batches.specs.KeptJobs.{AreKeptJobs}
use Rattle.convoy_batches.proofs.kept_jobs.jobs_of.Given as goal

abbrev pub invariant-loop-byte : goal.invariant-loop-byte
invariant-loop-byte l = record {
  after : IsAfter LONGEST_JOB l.splitter (take l.byte-index l.text);
  kept : AreKeptJobs (ended_jobs (take l.byte-index l.text)) l.jobs.items;
}
