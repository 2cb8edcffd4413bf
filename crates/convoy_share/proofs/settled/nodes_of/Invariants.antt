use Rattle.std.proofs.Common.{◌≡◌, ◌++◌, drop}
use Rattle.convoy_share.specs.Pieces.{nodes_in}
use Rattle.convoy_share.proofs.settled.nodes_of.Given as goal

abbrev pub invariant-loop-piece : goal.invariant-loop-piece
invariant-loop-piece l = l.nodes.items ++ nodes_in (drop l.piece-index l.pieces) ≡ nodes_in l.pieces
