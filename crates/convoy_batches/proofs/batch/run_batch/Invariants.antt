-- Each read so far gave a piece of the text, and the blocks of the jobs that ended in it have gone out.
use Rattle.std.proofs.Common.{List, ℕ}
use Rattle.convoy_commands.specs.Searches.{LatencySays}
use Rattle.convoy_batches.specs.BatchSteps.{IsUnderWay}
use Rattle.convoy_batches.proofs.BatchRuns.{HasReadOn}
use Rattle.convoy_batches.proofs.batch.run_batch.Given as goal

abbrev pub invariant-loop : goal.invariant-loop
invariant-loop g l = record {
  bytes : List ℕ;
  moved : HasReadOn g.S.Source.reads l.fn.source bytes l.counter l.source;
  under : IsUnderWay (LatencySays l.asked l.options) g.K.Sink.writes l.fn.sink l.sink bytes l.batch;
}
