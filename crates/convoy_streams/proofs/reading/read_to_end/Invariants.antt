-- Each read so far gave a piece of the text, which is within the limit.
use Rattle.std.proofs.Common.{◌≤◌, length}
use Rattle.convoy_streams.proofs.Pieces.{MovesPieces}
use Rattle.convoy_streams.proofs.reading.read_to_end.Given as goal

abbrev pub invariant-loop : goal.invariant-loop
invariant-loop g l = record {
  moved : MovesPieces g.S.Source.reads l.fn.source l.text.items l.counter l.source;
  short : length l.text.items ≤ l.longest;
}
