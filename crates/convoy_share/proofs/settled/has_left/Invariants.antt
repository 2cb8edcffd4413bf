use Rattle.std.specs.List.{list_any}
use Rattle.std.proofs.Common.{◌≡◌, drop}
use Rattle.convoy_share.specs.Pieces.{is_left}
use Rattle.convoy_share.proofs.settled.has_left.Given as goal

abbrev pub invariant-loop-piece : goal.invariant-loop-piece
invariant-loop-piece l = list_any is_left (drop l.piece-index l.pieces) ≡ list_any is_left l.pieces
