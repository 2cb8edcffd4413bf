-- The jobs that have ended so far were counted, and the one that is under way.
use Rattle.std.proofs.Common.{◌≡◌, ◌≤◌, ◌+◌, length, take}
use Rattle.convoy_streams.specs.Jobs.{ended_jobs}
use Rattle.convoy_streams.specs.Splitting.{IsAfter}
use Rattle.convoy_commands.specs.declared.limits.TheConstants.{LONGEST_JOB}
use Rattle.convoy_batches.proofs.batch_table.count_jobs.Given as goal

abbrev pub invariant-loop-byte : goal.invariant-loop-byte
invariant-loop-byte l = record {
  after : IsAfter LONGEST_JOB l.splitter (take l.byte-index l.text);
  counted : l.count ≡ length (ended_jobs (take l.byte-index l.text)) + 1;
  few : l.count ≤ l.byte-index + 1;
}
