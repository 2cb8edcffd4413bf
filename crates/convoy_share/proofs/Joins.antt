-- What a greater latency, and more branches put, leave right; and two results joined.
use Rattle.std.specs.Prelude.{ℕ, ◌+◌, ◌≤◌, max, List, [], ◌∷◌, ◌++◌}
use Rattle.std.proofs.Common.{arith, subst}
use Rattle.std.proofs.lemmas.List.{append-nil}
use Rattle.std.proofs.lemmas.List.Sums.{sum_by-append}
use Rattle.std.proofs.Common.{get_or}
use Rattle.convoy_ledger.specs.Tickets.{times}
use Rattle.convoy_scenario.specs.Scenario.{Scenario}
use Rattle.convoy_regions.specs.Regions.{Region, any_order}
use Rattle.convoy_branch.specs.declared.bounds.Bounds.{Bounds}
use Rattle.convoy_branch.specs.FrontLaws.{FrontsBetter}
use Rattle.convoy_share_deque.specs.declared.task.Task.{Task}
use Rattle.convoy_share.specs.declared.piece.Piece.{Piece}
use Rattle.convoy_share.specs.Pieces.{places_in, spent}
use Rattle.convoy_share.specs.Subtrees.{Subtree, ArePieces, AreSubtrees, IsResult}
use Rattle.convoy_share.specs.Filling.{IsSlot}
use Rattle.convoy_share.proofs.Counts.{once_zero}
use Rattle.convoy_share.proofs.Places.{AreTreesOf-better, AreTreesOf-later, pieces_better, pieces_later}

pub ArePieces-better : (better : FrontsBetter) (bounds : Bounds) (scenario : Scenario) (seen more : ℕ) (put : List Region) (low : ℕ) (boxes : List Region) (pieces : List Piece) → seen ≤ more → ArePieces bounds scenario seen put low boxes pieces → ArePieces bounds scenario more put low boxes pieces
ArePieces-better better bounds scenario seen more put low boxes pieces above is = record {
  tree = AreTreesOf-better better bounds scenario seen more put boxes pieces above is.tree;
  above = is.above;
  each = pieces_better scenario seen more put pieces above is.each;
}

pub ArePieces-later : (bounds : Bounds) (scenario : Scenario) (seen : ℕ) (put later : List Region) (low : ℕ) (boxes : List Region) (pieces : List Piece) → ArePieces bounds scenario seen put low boxes pieces → ArePieces bounds scenario seen (put ++ later) low boxes pieces
ArePieces-later bounds scenario seen put later low boxes pieces is = record {
  tree = AreTreesOf-later bounds scenario seen put later boxes pieces is.each is.tree;
  above = is.above;
  each = pieces_later scenario seen put later pieces is.each;
}

pub AreSubtrees-better : (better : FrontsBetter) (bounds : Bounds) (scenario : Scenario) (seen more : ℕ) (put later : List Region) (tasks : List Task) (subtrees : List Subtree) → seen ≤ more → AreSubtrees bounds scenario seen put tasks subtrees → AreSubtrees bounds scenario more (put ++ later) tasks subtrees
AreSubtrees-better better bounds scenario seen more put later [] [] above are = tt
AreSubtrees-better better bounds scenario seen more put later [] (subtree ∷ subtrees) above are = absurd are
AreSubtrees-better better bounds scenario seen more put later (task ∷ tasks) [] above are = absurd are
AreSubtrees-better better bounds scenario seen more put later (task ∷ tasks) (subtree ∷ subtrees) above are = (
  are.0,
  ArePieces-later bounds scenario more put later (task.number + 1) (task.branch.region ∷ []) subtree.pieces (ArePieces-better better bounds scenario seen more put (task.number + 1) (task.branch.region ∷ []) subtree.pieces above are.1),
  AreSubtrees-better better bounds scenario seen more put later tasks subtrees above are.2,
)

pub AreSubtrees-append : (bounds : Bounds) (scenario : Scenario) (seen : ℕ) (put : List Region) (tasks others : List Task) (subtrees rest : List Subtree) → AreSubtrees bounds scenario seen put tasks subtrees → AreSubtrees bounds scenario seen put others rest → AreSubtrees bounds scenario seen put (tasks ++ others) (subtrees ++ rest)
AreSubtrees-append bounds scenario seen put [] others [] rest are after = after
AreSubtrees-append bounds scenario seen put [] others (subtree ∷ subtrees) rest are after = absurd are
AreSubtrees-append bounds scenario seen put (task ∷ tasks) others [] rest are after = absurd are
AreSubtrees-append bounds scenario seen put (task ∷ tasks) others (subtree ∷ subtrees) rest are after =
    (are.0, are.1, AreSubtrees-append bounds scenario seen put tasks others subtrees rest are.2 after)

-- a result, and one of a thief: it put nothing
pub IsResult-joined : (better : FrontsBetter) (bounds : Bounds) (scenario : Scenario) (seen other_seen tickets other_tickets roots : ℕ) (put : List Region) (taken other_taken : List Task) (subtrees others : List Subtree) → IsResult bounds scenario seen tickets roots put taken subtrees → IsResult bounds scenario other_seen other_tickets 0 [] other_taken others → IsResult bounds scenario (max seen other_seen) (tickets + other_tickets) roots put (taken ++ other_taken) (subtrees ++ others)
IsResult-joined better bounds scenario seen other_seen tickets other_tickets roots put taken other_taken subtrees others mine theirs =
    let more = max seen other_seen in
    record {
      trees = AreSubtrees-append bounds scenario more put taken other_taken subtrees others (subst (λ (p : List Region). AreSubtrees bounds scenario more p taken subtrees) (append-nil put) (AreSubtrees-better better bounds scenario seen more put [] taken subtrees (omega arith) mine.trees)) (AreSubtrees-better better bounds scenario other_seen more [] put other_taken others (omega arith) theirs.trees);
      places = λ x. omega (arith, mine.places x, theirs.places x, sum_by-append (λ (s : Subtree). times x (places_in s.pieces)) subtrees others, once_zero x);
      nodes = omega (arith, mine.nodes, theirs.nodes, sum_by-append (λ (s : Subtree). spent s.pieces) subtrees others);
    }

pub IsSlot-better : (better : FrontsBetter) (bounds : Bounds) (scenario : Scenario) (seen more : ℕ) (put : List Region) (number : ℕ) (slot : List Piece) → seen ≤ more → IsSlot bounds scenario seen put number slot → IsSlot bounds scenario more put number slot
IsSlot-better better bounds scenario seen more put number [] above is = tt
IsSlot-better better bounds scenario seen more put number (piece ∷ pieces) above is =
    ArePieces-better better bounds scenario seen more put (number + 1) (get_or put number (any_order []) ∷ []) (piece ∷ pieces) above is
