-- What stands for the pieces of a tree in a long list.
use Rattle.convoy_share.specs.declared.piece.Kept.{Kept}
use Rattle.convoy_share.specs.declared.piece.Piece.{Piece}
use Rattle.convoy_share.specs.declared.piece.Piece.TheVariants as piece
use Rattle.convoy_share.specs.declared.piece.Kept.TheVariants.{Done, Todo, Pushed}

-- the piece that it stands for
abbrev pub piece_of : Kept → Piece
piece_of (Done node) = piece.Done node
piece_of (Todo tried branch) = piece.Todo branch.value tried
piece_of (Pushed number) = piece.Pushed number
