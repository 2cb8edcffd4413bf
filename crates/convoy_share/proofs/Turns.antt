-- What a turn makes of a region in a tree.
use Rattle.std.specs.Prelude.{◌≡◌, ℕ, ◌≤◌, [], ◌∷◌, false}
use Rattle.std.specs.List.{All}
use Rattle.std.proofs.Common.{refl}
use Rattle.std.proofs.lemmas.Bool.{false≢true}
use Rattle.std.proofs.lemmas.List.Elements.{All-nil, All-cons, All-head}
use Rattle.convoy_scenario.specs.Scenario.{Scenario}
use Rattle.convoy_packets.specs.Table.{IsTable, table_of}
use Rattle.convoy_certificate.specs.Certificate.{IsNode}
use Rattle.convoy_regions.specs.Regions.{IsRegion, Region}
use Rattle.convoy_branch.specs.declared.bounds.Bounds.{Bounds}
use Rattle.convoy_branch.specs.declared.step.Turn.{Turn}
use Rattle.convoy_branch.specs.declared.step.Turn.TheVariants.{Closed, Halves}
use Rattle.convoy_branch.specs.Steps.{IsTurn}
use Rattle.convoy_branch.specs.FrontLaws.{FrontsBetter, TurnsAreFronts, TurnsAreNodes}
use Rattle.convoy_share.specs.declared.piece.Piece.TheVariants.{Done, Todo}
use Rattle.convoy_share.specs.Pieces.{AreTreesOf, places_in, spent, IsPiece}
use Rattle.convoy_share.specs.Turns.{pieces_of, IsTurned}
use Rattle.convoy_share.proofs.Places.{AreTreesOf-better, pieces_better}

-- the pieces have no place, and one node
pub places_in-turn : (turn : Turn) → places_in (pieces_of turn) ≡ []
places_in-turn (Closed node) = refl
places_in-turn (Halves split first second tried) = refl

pub spent-turn : (turn : Turn) → spent (pieces_of turn) ≡ 1
spent-turn (Closed node) = refl
spent-turn (Halves split first second tried) = refl

-- they are a tree over the region
tree_of : (fronts : TurnsAreFronts) (bounds : Bounds) (scenario : Scenario) (known : ℕ) (region : Region) (turn : Turn) → IsTurn bounds scenario region known turn → AreTreesOf bounds scenario known [] (region ∷ []) (pieces_of turn)
tree_of fronts bounds scenario known region (Closed node) is =
    fronts bounds scenario known region (Closed node) is
tree_of fronts bounds scenario known region (Halves split first second tried) is =
    fronts bounds scenario known region (Halves split first second tried) is

-- they may stand in a tree of the scenario
pieces_right : (nodes : TurnsAreNodes) (bounds : Bounds) (scenario : Scenario) (known : ℕ) (region : Region) (turn : Turn) → IsTable (table_of scenario) → IsRegion scenario region → IsTurn bounds scenario region known turn → All (IsPiece scenario known []) (pieces_of turn)
pieces_right nodes bounds scenario known region (Closed node) table inside is =
    let P = IsPiece scenario known [] in
    All-cons P (Done node) [] (All-head (IsNode scenario) node [] (nodes bounds scenario known region (Closed node) table inside is)) (All-nil P)
pieces_right nodes bounds scenario known region (Halves split first second tried) table inside is =
    let P = IsPiece scenario known [] in
    let node : IsNode scenario split = All-head (IsNode scenario) split [] (nodes bounds scenario known region (Halves split first second tried) table inside is) in
    All-cons P (Done split) (Todo first false ∷ Todo second tried ∷ []) node (
    All-cons P (Todo first false) (Todo second tried ∷ []) (is.first_of, λ told. absurd (false≢true told)) (
    All-cons P (Todo second tried) [] (is.second_of, is.is_tried) (All-nil P)
    )
    )

-- a step's turn, for each latency from the one known on
pub IsTurned-step : (better : FrontsBetter) (fronts : TurnsAreFronts) (nodes : TurnsAreNodes) (bounds : Bounds) (scenario : Scenario) (known seen : ℕ) (region : Region) (turn : Turn) → IsTable (table_of scenario) → IsRegion scenario region → known ≤ seen → IsTurn bounds scenario region known turn → IsTurned bounds scenario seen region turn
IsTurned-step better fronts nodes bounds scenario known seen region turn table inside above is = record {
  tree = AreTreesOf-better better bounds scenario known seen [] (region ∷ []) (pieces_of turn) above (tree_of fronts bounds scenario known region turn is);
  each = pieces_better scenario known seen [] (pieces_of turn) above (pieces_right nodes bounds scenario known region turn table inside is);
}
