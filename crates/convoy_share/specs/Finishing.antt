-- How far the owner has come with the trees of all workers, once every thief was joined.
use Rattle.std.specs.Prelude.{◌≡◌, ◌⊎◌, List, []}
use Rattle.convoy_regions.specs.Regions.{Region}
use Rattle.convoy_branch.specs.Fronts.{left_in}
use Rattle.convoy_share.specs.declared.means.Means.{Means}
use Rattle.convoy_share.specs.declared.piece.Piece.{Piece}
use Rattle.convoy_share.specs.Common.{Common}
use Rattle.convoy_share.specs.Filling.{IsFilling}
use Rattle.convoy_share.specs.Means.{IsOver, drawn}
use Rattle.convoy_share.specs.Pieces.{front}

-- the trees are being filled, and unless all tickets were drawn or the search may be stopped, no branch is left among what is done
pub record IsFinishing (shared : Common) (put : List Region) (means : Means) (done rest : List Piece) (slots : List (List Piece)) : Type 0 where
  pub filling : IsFilling shared.bounds shared.scenario means.hand.seen (drawn means) put done rest slots
  pub left : (left_in (front put done) ≡ []) ⊎ IsOver shared.may_stop means.clerk.done
