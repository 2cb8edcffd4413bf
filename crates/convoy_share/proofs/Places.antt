-- A tree in the place of a region that is left.
use Rattle.std.specs.Prelude.{◌≡◌, ℕ, ◌≤◌, ◌<◌, List, [], ◌∷◌, ◌++◌, map}
use Rattle.std.specs.List.{All}
use Rattle.std.proofs.Common.{arith, refl, length-append, ap, sym, subst, ◌∙◌}
use Rattle.std.proofs.lemmas.List.{map-append, get_or_append_left}
use Rattle.std.proofs.lemmas.List.Elements.{All-head, All-tail, All-weaker}
use Rattle.convoy_scenario.specs.Scenario.{Scenario}
use Rattle.convoy_regions.specs.Regions.{Region, any_order, run_of}
use Rattle.convoy_sim.specs.Delivery.{latency_of}
use Rattle.convoy_checker.proofs.TreeLaws.{AreTrees-filled}
use Rattle.convoy_branch.specs.declared.bounds.Bounds.{Bounds}
use Rattle.convoy_branch.specs.Fronts.{AreFronts, FrontNode, Left, front_below, IsOfFront}
use Rattle.convoy_branch.specs.FrontLaws.{FrontsBetter}
use Rattle.convoy_share.specs.declared.piece.Piece.{Piece}
use Rattle.convoy_share.specs.declared.piece.Piece.TheVariants.{Done, Todo, Pushed}
use Rattle.convoy_share.specs.Pieces.{front_of, AreTreesOf, IsPiece, places_in}

-- a tree over a region that is left may stand in for the region
pub AreTreesOf-filled : (bounds : Bounds) (scenario : Scenario) (seen : ℕ) (put boxes : List Region) (branch : Region) (piece : Piece) (front inner rest : List Piece) → front_of put piece ≡ Left branch → AreTreesOf bounds scenario seen put (branch ∷ []) inner → AreTreesOf bounds scenario seen put boxes (front ++ piece ∷ rest) → AreTreesOf bounds scenario seen put boxes (front ++ (inner ++ rest))
AreTreesOf-filled bounds scenario seen put boxes branch piece front inner rest is inner_tree tree =
    let T : List FrontNode → Type 0 = λ f. AreFronts bounds scenario seen boxes f in
    let before = map (front_of put) front in
    let within = map (front_of put) inner in
    let after = map (front_of put) rest in
    let old : T (before ++ Left branch ∷ after) = subst T (map-append (front_of put) front (piece ∷ rest) ∙ ap (λ (n : FrontNode). before ++ n ∷ after) is) tree in
    let new : T (before ++ (within ++ after)) = AreTrees-filled (front_below scenario) (IsOfFront bounds scenario seen) (Left branch) branch (λ box names. names) (λ box. refl) within inner_tree before after boxes old in
    subst T (sym (map-append (front_of put) front (inner ++ rest) ∙ ap (λ (ns : List FrontNode). before ++ ns) (map-append (front_of put) inner rest))) new

-- a greater latency leaves trees and pieces right
pub AreTreesOf-better : (better : FrontsBetter) (bounds : Bounds) (scenario : Scenario) (seen more : ℕ) (put boxes : List Region) (pieces : List Piece) → seen ≤ more → AreTreesOf bounds scenario seen put boxes pieces → AreTreesOf bounds scenario more put boxes pieces
AreTreesOf-better better bounds scenario seen more put boxes pieces above tree =
    better bounds scenario seen more boxes (map (front_of put) pieces) above tree

pub IsPiece-better : (scenario : Scenario) (seen more : ℕ) (put : List Region) → seen ≤ more → (piece : Piece) → IsPiece scenario seen put piece → IsPiece scenario more put piece
IsPiece-better scenario seen more put above (Done node) is = is
IsPiece-better scenario seen more put above (Todo branch tried) is =
    (is.0, λ told. (let known : latency_of scenario (run_of scenario branch.region) ≤ seen = is.1 told in omega arith))
IsPiece-better scenario seen more put above (Pushed number) is = is

pub pieces_better : (scenario : Scenario) (seen more : ℕ) (put : List Region) (pieces : List Piece) → seen ≤ more → All (IsPiece scenario seen put) pieces → All (IsPiece scenario more put) pieces
pieces_better scenario seen more put pieces above each =
    All-weaker (IsPiece scenario seen put) (IsPiece scenario more put) (IsPiece-better scenario seen more put above) pieces each

-- what was put later changes no piece
front_later : (scenario : Scenario) (seen : ℕ) (put later : List Region) (piece : Piece) → IsPiece scenario seen put piece → front_of put piece ≡ front_of (put ++ later) piece
front_later scenario seen put later (Done node) is = refl
front_later scenario seen put later (Todo branch tried) is = refl
front_later scenario seen put later (Pushed number) is =
    ap (λ (b : Region). Left b) (sym (get_or_append_left put later (any_order []) number is))

fronts_later : (scenario : Scenario) (seen : ℕ) (put later : List Region) (pieces : List Piece) → All (IsPiece scenario seen put) pieces → map (front_of put) pieces ≡ map (front_of (put ++ later)) pieces
fronts_later scenario seen put later [] each = refl
fronts_later scenario seen put later (piece ∷ pieces) each =
    let P = IsPiece scenario seen put in
    let front = front_of (put ++ later) in
    ap (λ (n : FrontNode). n ∷ map (front_of put) pieces) (front_later scenario seen put later piece (All-head P piece pieces each)) ∙ ap (λ (ns : List FrontNode). front piece ∷ ns) (fronts_later scenario seen put later pieces (All-tail P piece pieces each))

pub AreTreesOf-later : (bounds : Bounds) (scenario : Scenario) (seen : ℕ) (put later boxes : List Region) (pieces : List Piece) → All (IsPiece scenario seen put) pieces → AreTreesOf bounds scenario seen put boxes pieces → AreTreesOf bounds scenario seen (put ++ later) boxes pieces
AreTreesOf-later bounds scenario seen put later boxes pieces each tree =
    subst (λ (f : List FrontNode). AreFronts bounds scenario seen boxes f) (fronts_later scenario seen put later pieces each) tree

pub IsPiece-later : (scenario : Scenario) (seen : ℕ) (put later : List Region) (piece : Piece) → IsPiece scenario seen put piece → IsPiece scenario seen (put ++ later) piece
IsPiece-later scenario seen put later (Done node) is = is
IsPiece-later scenario seen put later (Todo branch tried) is = is
IsPiece-later scenario seen put later (Pushed number) is = omega (arith, is, length-append put later)

pub pieces_later : (scenario : Scenario) (seen : ℕ) (put later : List Region) (pieces : List Piece) → All (IsPiece scenario seen put) pieces → All (IsPiece scenario seen (put ++ later)) pieces
pieces_later scenario seen put later pieces each =
    All-weaker (IsPiece scenario seen put) (IsPiece scenario seen (put ++ later)) (IsPiece-later scenario seen put later) pieces each

-- where nothing was put there are no places
pub places_none : (scenario : Scenario) (seen : ℕ) (pieces : List Piece) → All (IsPiece scenario seen []) pieces → places_in pieces ≡ []
places_none scenario seen [] each = refl
places_none scenario seen (Done node ∷ pieces) each =
    places_none scenario seen pieces (All-tail (IsPiece scenario seen []) (Done node) pieces each)
places_none scenario seen (Todo branch tried ∷ pieces) each =
    places_none scenario seen pieces (All-tail (IsPiece scenario seen []) (Todo branch tried) pieces each)
places_none scenario seen (Pushed number ∷ pieces) each =
    let low : number < 0 = All-head (IsPiece scenario seen []) (Pushed number) pieces each in absurd (omega (arith, low))
