-- How far a worker is with the regions that it took up, after each of its steps.
use Rattle.std.specs.Prelude.{◌≡◌, ℕ, ◌+◌, ◌≤◌, List, [], ◌∷◌, ◌++◌, length, Bool, false}
use Rattle.std.specs.List.{All}
use Rattle.std.proofs.Common.{arith, refl, ap, sym, subst, ◌∙◌, append_assoc, get_or}
use Rattle.std.proofs.lemmas.List.{append-nil, length_push, get_or_push}
use Rattle.std.proofs.lemmas.List.Elements.{All-nil, All-cons, All-head, All-tail, All-append, filter_map-append}
use Rattle.std.proofs.lemmas.List.Sums.{sum_by_push}
use Rattle.convoy_shares.specs.Shares.{once_below}
use Rattle.convoy_ledger.specs.Tickets.{times}
use Rattle.convoy_scenario.specs.Scenario.{Scenario}
use Rattle.convoy_certificate.specs.declared.node.Node.{Node}
use Rattle.convoy_regions.specs.Regions.{Region, any_order}
use Rattle.convoy_regions.specs.Branches.{Branch}
use Rattle.convoy_branch.specs.declared.bounds.Bounds.{Bounds}
use Rattle.convoy_branch.specs.declared.step.Turn.{Turn}
use Rattle.convoy_branch.specs.declared.step.Turn.TheVariants.{Halves}
use Rattle.convoy_branch.specs.Fronts.{AreFronts, Spent, Left}
use Rattle.convoy_branch.specs.FrontLaws.{FrontsBetter}
use Rattle.convoy_share_deque.specs.declared.task.Task.{Task}
use Rattle.convoy_share.specs.declared.piece.Piece.{Piece}
use Rattle.convoy_share.specs.declared.piece.Piece.TheVariants.{Done, Todo, Pushed}
use Rattle.convoy_share.specs.Pieces.{pushed_number, places_in, spent, IsPiece}
use Rattle.convoy_share.specs.Subtrees.{Subtree, ArePieces, AreSubtrees, IsResult, IsUnderWay}
use Rattle.convoy_share.specs.Turns.{parted, pieces_of, IsTurned}
use Rattle.convoy_share.proofs.Counts.{All-parts, places-append, spent-append, once_more}
use Rattle.convoy_share.proofs.Places.{AreTreesOf-filled, AreTreesOf-later, pieces_later}
use Rattle.convoy_share.proofs.Turns.{places_in-turn, spent-turn}
use Rattle.convoy_share.proofs.Joins.{ArePieces-better, ArePieces-later, AreSubtrees-better, AreSubtrees-append}

-- other pieces in the place of a branch that is left
ArePieces-filled : (bounds : Bounds) (scenario : Scenario) (seen : ℕ) (put : List Region) (low : ℕ) (boxes : List Region) (branch : Branch) (tried : Bool) (front inner rest : List Piece) → ArePieces bounds scenario seen put low (branch.region ∷ []) inner → ArePieces bounds scenario seen put low boxes (front ++ Todo branch tried ∷ rest) → ArePieces bounds scenario seen put low boxes (front ++ (inner ++ rest))
ArePieces-filled bounds scenario seen put low boxes branch tried front inner rest new old =
    let P = IsPiece scenario seen put in
    let Q : ℕ → Type 0 = λ n. low ≤ n in
    let each = All-parts P front (Todo branch tried ∷ rest) old.each in
    let above : All Q (places_in front ++ places_in rest) = subst (λ (ts : List ℕ). All Q ts) (filter_map-append pushed_number front (Todo branch tried ∷ rest)) old.above in
    let parts = All-parts Q (places_in front) (places_in rest) above in
    let places : places_in (front ++ (inner ++ rest)) ≡ places_in front ++ (places_in inner ++ places_in rest) = filter_map-append pushed_number front (inner ++ rest) ∙ ap (λ (ts : List ℕ). places_in front ++ ts) (filter_map-append pushed_number inner rest) in
    record {
      tree = AreTreesOf-filled bounds scenario seen put boxes branch.region (Todo branch tried) front inner rest refl new.tree old.tree;
      above = subst (λ (ts : List ℕ). All Q ts) (sym places) (All-append Q (places_in front) (places_in inner ++ places_in rest) parts.0 (All-append Q (places_in inner) (places_in rest) new.above parts.1));
      each = All-append P front (inner ++ rest) each.0 (All-append P inner rest new.each (All-tail P (Todo branch tried) rest each.1));
    }

-- a branch that nobody has taken up
pub IsUnderWay-start : (bounds : Bounds) (scenario : Scenario) (seen : ℕ) (put : List Region) (low : ℕ) (branch : Branch) (tried : Bool) → IsPiece scenario seen put (Todo branch tried) → IsUnderWay bounds scenario seen put put low (branch.region ∷ []) (Todo branch tried ∷ []) 0
IsUnderWay-start bounds scenario seen put low branch tried is = record {
  trees = record {
    tree = (refl, tt);
    above = All-nil (λ (n : ℕ). low ≤ n);
    each = All-cons (IsPiece scenario seen put) (Todo branch tried) [] is (All-nil (IsPiece scenario seen put));
  };
  places = λ x. omega arith;
  nodes = refl;
  more = ([], sym (append-nil put));
}

pub IsUnderWay-better : (better : FrontsBetter) (bounds : Bounds) (scenario : Scenario) (seen more : ℕ) (before put : List Region) (low : ℕ) (boxes : List Region) (pieces : List Piece) (tickets : ℕ) → seen ≤ more → IsUnderWay bounds scenario seen before put low boxes pieces tickets → IsUnderWay bounds scenario more before put low boxes pieces tickets
IsUnderWay-better better bounds scenario seen more before put low boxes pieces tickets above way = record {
  trees = ArePieces-better better bounds scenario seen more put low boxes pieces above way.trees;
  places = way.places;
  nodes = way.nodes;
  more = way.more;
}

-- a region is closed, or parted and both halves are kept
pub IsUnderWay-turned : (bounds : Bounds) (scenario : Scenario) (seen : ℕ) (before put : List Region) (low : ℕ) (boxes : List Region) (front rest : List Piece) (branch : Branch) (tried : Bool) (tickets : ℕ) (turn : Turn) → IsTurned bounds scenario seen branch.region turn → IsUnderWay bounds scenario seen before put low boxes (front ++ Todo branch tried ∷ rest) tickets → IsUnderWay bounds scenario seen before put low boxes (front ++ (pieces_of turn ++ rest)) (tickets + 1)
IsUnderWay-turned bounds scenario seen before put low boxes front rest branch tried tickets turn is way =
    let pieces = pieces_of turn in
    let Q : ℕ → Type 0 = λ n. low ≤ n in
    let inner : ArePieces bounds scenario seen put low (branch.region ∷ []) pieces = record {
      tree = AreTreesOf-later bounds scenario seen [] put (branch.region ∷ []) pieces is.each is.tree;
      above = subst (λ (ts : List ℕ). All Q ts) (sym (places_in-turn turn)) (All-nil Q);
      each = pieces_later scenario seen [] put pieces is.each;
    } in
    record {
      trees = ArePieces-filled bounds scenario seen put low boxes branch tried front pieces rest inner way.trees;
      places = λ x. omega (arith, way.places x, places-append x front (Todo branch tried ∷ rest), places-append x front (pieces ++ rest), places-append x pieces rest, ap (times x) (places_in-turn turn));
      nodes = omega (arith, way.nodes, spent-append front (Todo branch tried ∷ rest), spent-append front (pieces ++ rest), spent-append pieces rest, spent-turn turn);
      more = way.more;
    }

-- a region is parted and its first half is put
pub IsUnderWay-put : (bounds : Bounds) (scenario : Scenario) (seen : ℕ) (before put : List Region) (low : ℕ) (boxes : List Region) (front rest : List Piece) (branch : Branch) (was_tried : Bool) (tickets : ℕ) (split : Node) (first second : Branch) (tried : Bool) (number : ℕ) → IsTurned bounds scenario seen branch.region (Halves split first second tried) → number ≡ length put → low ≤ length put → IsUnderWay bounds scenario seen before put low boxes (front ++ Todo branch was_tried ∷ rest) tickets → IsUnderWay bounds scenario seen before (put ++ first.region ∷ []) low boxes (front ++ (parted split (Pushed number) second tried ++ rest)) (tickets + 1)
IsUnderWay-put bounds scenario seen before put low boxes front rest branch was_tried tickets split first second tried number is same below way =
    let next = put ++ first.region ∷ [] in
    let turn = Halves split first second tried in
    let pieces = parted split (Pushed number) second tried in
    let P = IsPiece scenario seen next in
    let Q : ℕ → Type 0 = λ n. low ≤ n in
    let whole = pieces_later scenario seen [] next (pieces_of turn) is.each in
    let parts = All-parts P (Done split ∷ []) (Todo first false ∷ Todo second tried ∷ []) whole in
    let last : first.region ≡ get_or next number (any_order []) = sym (get_or_push put first.region (any_order []) number (sym same)) in
    let inner : ArePieces bounds scenario seen next low (branch.region ∷ []) pieces = record {
      tree = subst (λ (b : Region). AreFronts bounds scenario seen (branch.region ∷ []) (Spent split ∷ Left b ∷ Left second.region ∷ [])) last is.tree;
      above = All-cons Q number [] (omega (arith, same, below)) (All-nil Q);
      each = All-cons P (Done split) (Pushed number ∷ Todo second tried ∷ []) (All-head P (Done split) [] parts.0) (All-cons P (Pushed number) (Todo second tried ∷ []) (omega (arith, same, length_push put first.region)) (All-tail P (Todo first false) (Todo second tried ∷ []) parts.1));
    } in
    let old = ArePieces-later bounds scenario seen put (first.region ∷ []) low boxes (front ++ Todo branch was_tried ∷ rest) way.trees in
    record {
      trees = ArePieces-filled bounds scenario seen next low boxes branch was_tried front pieces rest inner old;
      places = λ x. omega (arith, way.places x, places-append x front (Todo branch was_tried ∷ rest), places-append x front (pieces ++ rest), places-append x pieces rest, ap (λ (n : ℕ). times x (n ∷ [])) same, once_more x (length put), ap (once_below x) (length_push put first.region));
      nodes = omega (arith, way.nodes, spent-append front (Todo branch was_tried ∷ rest), spent-append front (pieces ++ rest));
      more = (way.more.0 ++ first.region ∷ [], ap (λ (bs : List Region). bs ++ first.region ∷ []) way.more.1 ∙ append_assoc before way.more.0 (first.region ∷ []));
    }

-- one task more
pub IsResult-more : (better : FrontsBetter) (bounds : Bounds) (scenario : Scenario) (seen more tickets drawn roots : ℕ) (before put : List Region) (taken : List Task) (subtrees : List Subtree) (task : Task) (pieces : List Piece) → seen ≤ more → IsResult bounds scenario seen tickets roots before taken subtrees → IsUnderWay bounds scenario more before put (task.number + 1) (task.branch.region ∷ []) pieces drawn → IsResult bounds scenario more (tickets + drawn) roots put (taken ++ task ∷ []) (subtrees ++ record { number = task.number; pieces = pieces } ∷ [])
IsResult-more better bounds scenario seen more tickets drawn roots before put taken subtrees task pieces above is way =
    let subtree : Subtree = record { number = task.number; pieces = pieces } in
    let later = way.more.0 in
    let trees : AreSubtrees bounds scenario more (before ++ later) taken subtrees = AreSubtrees-better better bounds scenario seen more before later taken subtrees above is.trees in
    record {
      trees = AreSubtrees-append bounds scenario more put taken (task ∷ []) subtrees (subtree ∷ []) (subst (λ (p : List Region). AreSubtrees bounds scenario more p taken subtrees) (sym way.more.1) trees) (refl, way.trees, tt);
      places = λ x. omega (arith, is.places x, way.places x, sum_by_push (λ (s : Subtree). times x (places_in s.pieces)) subtrees subtree);
      nodes = omega (arith, is.nodes, way.nodes, sum_by_push (λ (s : Subtree). spent s.pieces) subtrees subtree);
    }
