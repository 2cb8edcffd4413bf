-- What a turn makes of a region.
use Rattle.std.specs.Prelude.{ℕ, Bool, List, [], ◌∷◌, false}
use Rattle.std.specs.List.{All}
use Rattle.convoy_scenario.specs.Scenario.{Scenario}
use Rattle.convoy_certificate.specs.declared.node.Node.{Node}
use Rattle.convoy_regions.specs.Regions.{Region}
use Rattle.convoy_regions.specs.Branches.{Branch}
use Rattle.convoy_branch.specs.declared.bounds.Bounds.{Bounds}
use Rattle.convoy_branch.specs.declared.step.Turn.{Turn}
use Rattle.convoy_branch.specs.declared.step.Turn.TheVariants.{Closed, Halves}
use Rattle.convoy_share.specs.declared.piece.Piece.{Piece}
use Rattle.convoy_share.specs.declared.piece.Piece.TheVariants.{Done, Todo}
use Rattle.convoy_share.specs.Pieces.{AreTreesOf, IsPiece}

-- a split with what became of its first half, and its second half, which may have been tried
abbrev pub parted : Node → Piece → Branch → Bool → List Piece
parted split first second tried = Done split ∷ first ∷ Todo second tried ∷ []

-- the pieces that take the place of a region
abbrev pub pieces_of : Turn → List Piece
pieces_of (Closed node) = Done node ∷ []
pieces_of (Halves split first second tried) = parted split (Todo first false) second tried

-- they are a tree over it, and may stand in a tree of the scenario
pub record IsTurned (bounds : Bounds) (scenario : Scenario) (seen : ℕ) (branch : Region) (turn : Turn) : Type 0 where
  pub tree : AreTreesOf bounds scenario seen [] (branch ∷ []) (pieces_of turn)
  pub each : All (IsPiece scenario seen []) (pieces_of turn)
