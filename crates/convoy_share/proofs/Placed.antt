-- How far a worker's regions are, once it parted one and its strategy placed the first half.
use Rattle.std.specs.Prelude.{ℕ, ◌≤◌, List, ◌∷◌, ◌++◌, length, Bool}
use Rattle.std.proofs.Common.{arith, ap, sym, subst, length-append}
use Rattle.convoy_scenario.specs.Scenario.{Scenario}
use Rattle.convoy_regions.specs.Regions.{Region}
use Rattle.convoy_regions.specs.Branches.{Branch}
use Rattle.convoy_certificate.specs.declared.node.Node.{Node}
use Rattle.convoy_branch.specs.declared.bounds.Bounds.{Bounds}
use Rattle.convoy_branch.specs.declared.step.Turn.TheVariants.{Halves}
use Rattle.convoy_branch.specs.FrontLaws.{FrontsBetter}
use Rattle.convoy_share.specs.declared.means.Means.{Means}
use Rattle.convoy_share.specs.declared.means.TakenUp.TheVariants.{Turned}
use Rattle.convoy_share.specs.declared.piece.Piece.{Piece}
use Rattle.convoy_share.specs.declared.piece.Piece.TheVariants.{Done, Todo, Pushed}
use Rattle.convoy_share.specs.Turns.{parted}
use Rattle.convoy_share.specs.Halves.{IsPlaced}
use Rattle.convoy_share.specs.Means.{IsTakenUp, IsGrown}
use Rattle.convoy_share.proofs.Grown.{IsGrown-turned, IsGrown-put}

-- what was put since leaves no fewer
pub below_put : (bounds : Bounds) (scenario : Scenario) (before after : Means) (first put : List Region) (low below : ℕ) (boxes : List Region) (pieces : List Piece) → below ≤ length first → IsGrown bounds scenario before after first put low boxes pieces → below ≤ length put
below_put bounds scenario before after first put low below boxes pieces less grown =
    let more = grown.way.more in omega (arith, less, ap length more.1, length-append first more.0)

pub IsGrown-placed : (better : FrontsBetter) (bounds : Bounds) (scenario : Scenario) (may_stop : Bool) (most : ℕ) (before between after : Means) (first here there : List Region) (low : ℕ) (boxes : List Region) (front rest : List Piece) (branch : Branch) (was_tried : Bool) (split : Node) (half other : Branch) (tried : Bool) (piece : Piece) → IsTakenUp bounds scenario may_stop most branch between after (Turned (Halves split half other tried)) → IsPlaced here there half piece → low ≤ length first → IsGrown bounds scenario before between first here low boxes (front ++ Todo branch was_tried ∷ rest) → IsGrown bounds scenario before after first there low boxes (front ++ (parted split piece other tried ++ rest))
IsGrown-placed better bounds scenario may_stop most before between after first here there low boxes front rest branch was_tried split half other tried (Pushed number) taken placed below grown =
    let less = below_put bounds scenario before between first here low low boxes (front ++ Todo branch was_tried ∷ rest) below grown in
    let next = IsGrown-put better bounds scenario may_stop most before between after first here low boxes front rest branch was_tried split half other tried number taken placed.0 less grown in
    subst (λ (put : List Region). IsGrown bounds scenario before after first put low boxes (front ++ (parted split (Pushed number) other tried ++ rest))) (sym placed.1) next
IsGrown-placed better bounds scenario may_stop most before between after first here there low boxes front rest branch was_tried split half other tried (Todo kept told) taken placed below grown =
    let next = IsGrown-turned better bounds scenario may_stop most before between after first here low boxes front rest branch was_tried (Halves split half other tried) taken grown in
    rw (placed.0, placed.1, placed.2) next
IsGrown-placed better bounds scenario may_stop most before between after first here there low boxes front rest branch was_tried split half other tried (Done node) taken placed below grown = absurd placed
