-- What becomes of the first half of a split.
use Rattle.std.specs.Prelude.{◌≡◌, List, [], ◌∷◌, ◌++◌, false, length}
use Rattle.convoy_regions.specs.Regions.{Region}
use Rattle.convoy_regions.specs.Branches.{Branch}
use Rattle.convoy_share.specs.declared.piece.Piece.{Piece}
use Rattle.convoy_share.specs.declared.piece.Piece.TheVariants.{Done, Todo, Pushed}

-- it was put under the next number, or it is kept
abbrev pub IsPlaced : List Region → List Region → Branch → Piece → Type 0
IsPlaced before after branch (Pushed number) = (number ≡ length before) × (after ≡ before ++ branch.region ∷ [])
IsPlaced before after branch (Todo kept tried) = (kept ≡ branch) × (tried ≡ false) × (after ≡ before)
IsPlaced before after branch (Done node) = ⊥
