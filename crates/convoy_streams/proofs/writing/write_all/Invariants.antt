-- What went out so far are pieces, and with what is left they are the text.
use Rattle.std.proofs.Common.{List, ℕ, ◌≡◌, ◌++◌, length}
use Rattle.convoy_streams.proofs.Pieces.{MovesPieces}
use Rattle.convoy_streams.proofs.writing.write_all.Given as goal

abbrev pub invariant-loop-rest : goal.invariant-loop-rest
invariant-loop-rest g l = record {
  bytes : List ℕ;
  count : ℕ;
  moved : MovesPieces g.K.Sink.writes l.fn.sink bytes count l.sink;
  whole : bytes ++ l.rest ≡ l.text;
}

abbrev pub decreases-loop-rest : goal.decreases-loop-rest
decreases-loop-rest g l = length l.rest
