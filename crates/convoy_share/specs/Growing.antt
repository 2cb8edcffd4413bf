-- A tree that is being searched, as pieces.
use Rattle.std.specs.Prelude.{List, ◌++◌, reverse}
use Rattle.convoy_share.specs.declared.growing.Growing.{Growing}
use Rattle.convoy_share.specs.declared.piece.Piece.{Piece}

-- the work, and then what is written, of which the last piece was written first
abbrev pub pieces_in : Growing → List Piece
pieces_in growing = growing.work.items ++ reverse growing.written.items
