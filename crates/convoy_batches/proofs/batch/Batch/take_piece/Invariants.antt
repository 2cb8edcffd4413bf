-- The bytes so far were taken.
use Rattle.std.proofs.Common.{◌++◌, List, ℕ, take}
use Rattle.convoy_commands.specs.Searches.{LatencySays}
use Rattle.convoy_batches.specs.BatchSteps.{IsUnderWay}
use Rattle.convoy_batches.proofs.batch.Batch.take_piece.Given as goal

abbrev pub invariant-loop-byte : goal.invariant-loop-byte
invariant-loop-byte g l =
    (start : g.row.K.Denot) (text : List ℕ)
    → IsUnderWay (LatencySays l.asked l.options) g.K.Sink.writes start l.fn.sink text l.fn.self
    → IsUnderWay (LatencySays l.asked l.options) g.K.Sink.writes start l.sink (text ++ take l.byte-index l.piece) l.self
