-- The upper bound of what is left, piece by piece.
use Rattle.std.specs.Prelude.{◌≡◌, ℕ, ◌+◌, ◌<◌, List, ◌∷◌, length, slice_index_or}
use Rattle.std.proofs.Common.{drop, ap, sym, subst, ◌∙◌}
use Rattle.std.proofs.lemmas.List.{drop_more}
use Rattle.convoy_scenario.specs.Scenario.{Scenario}
use Rattle.convoy_branch.specs.declared.bounds.Bounds.{Bounds}
use Rattle.convoy_branch.specs.FrontLaws.{UppersRaised}
use Rattle.convoy_branch.specs.Uppers.{IsUpperOf}
use Rattle.convoy_share.specs.declared.piece.Piece.{Piece}
use Rattle.convoy_share.specs.declared.piece.Piece.TheVariants.{Done, Todo, Pushed}
use Rattle.convoy_share.specs.Pieces.{IsRaisedOver, left_regions}

-- the upper bound where that is the best latency and the branches among the pieces are left
abbrev pub IsUpperOver : Bounds → Scenario → ℕ → List Piece → ℕ → Type 0
IsUpperOver bounds scenario best pieces upper = IsUpperOf bounds scenario best (left_regions pieces) upper

IsUpperOver-cons : (bounds : Bounds) (scenario : Scenario) (best raised : ℕ) (piece : Piece) (rest : List Piece) (most : ℕ) → UppersRaised → IsRaisedOver bounds scenario piece best raised → IsUpperOver bounds scenario raised rest most → IsUpperOver bounds scenario best (piece ∷ rest) most
IsUpperOver-cons bounds scenario best raised (Todo branch tried) rest most law is over =
    law bounds scenario best raised branch.region (left_regions rest) most is over
IsUpperOver-cons bounds scenario best raised (Done node) rest most law is over =
    subst (λ (n : ℕ). IsUpperOver bounds scenario n rest most) is over
IsUpperOver-cons bounds scenario best raised (Pushed number) rest most law is over =
    subst (λ (n : ℕ). IsUpperOver bounds scenario n rest most) is over

-- the piece at a place
pub IsUpperOver-next : (bounds : Bounds) (scenario : Scenario) (best raised : ℕ) (pieces : List Piece) (place : ℕ) (piece : Piece) (most : ℕ) → UppersRaised → place < length pieces → piece ≡ slice_index_or pieces place piece → IsRaisedOver bounds scenario piece best raised → IsUpperOver bounds scenario raised (drop (place + 1) pieces) most → IsUpperOver bounds scenario best (drop place pieces) most
IsUpperOver-next bounds scenario best raised pieces place piece most law within at is over =
    let parts : drop place pieces ≡ piece ∷ drop (place + 1) pieces = drop_more pieces place piece within ∙ ap (λ (p : Piece). p ∷ drop (place + 1) pieces) (sym at) in
    subst (λ (ps : List Piece). IsUpperOver bounds scenario best ps most) (sym parts) (IsUpperOver-cons bounds scenario best raised piece (drop (place + 1) pieces) most law is over)
