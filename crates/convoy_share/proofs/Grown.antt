-- How far a worker's regions are, after it took up one of them.
use Rattle.std.specs.Prelude.{◌≡◌, ℕ, ◌+◌, ◌≤◌, List, [], ◌∷◌, ◌++◌, length, Bool}
use Rattle.std.specs.List.{All}
use Rattle.std.proofs.Common.{arith, refl, sym, subst, ◌∙◌, inl, inr}
use Rattle.std.proofs.lemmas.List.Elements.{All-head, All-nil}
use Rattle.convoy_scenario.specs.Scenario.{Scenario}
use Rattle.convoy_regions.specs.Regions.{Region}
use Rattle.convoy_regions.specs.Branches.{Branch}
use Rattle.convoy_certificate.specs.declared.node.Node.{Node}
use Rattle.convoy_branch.specs.declared.bounds.Bounds.{Bounds}
use Rattle.convoy_branch.specs.declared.step.Turn.{Turn}
use Rattle.convoy_branch.specs.declared.step.Turn.TheVariants.{Halves}
use Rattle.convoy_branch.specs.FrontLaws.{FrontsBetter}
use Rattle.convoy_share.specs.declared.means.Means.{Means}
use Rattle.convoy_share.specs.declared.means.TakenUp.TheVariants.{Turned, Left}
use Rattle.convoy_share.specs.declared.piece.Piece.{Piece}
use Rattle.convoy_share.specs.declared.piece.Piece.TheVariants.{Todo, Pushed}
use Rattle.convoy_share.specs.Pieces.{IsPiece, left_regions}
use Rattle.convoy_share.specs.Subtrees.{ArePieces}
use Rattle.convoy_share.specs.Turns.{parted, pieces_of}
use Rattle.convoy_share.specs.Means.{IsLater, IsTakenUp, IsGrown, IsLeftAtEnd, IsOver}
use Rattle.convoy_share.proofs.Counts.{All-parts}
use Rattle.convoy_share.proofs.Places.{places_none}
use Rattle.convoy_share.proofs.UnderWay.{IsUnderWay-start, IsUnderWay-better, IsUnderWay-turned, IsUnderWay-put}

IsLater-same : (means : Means) → IsLater means means
IsLater-same means = record { board = refl; ledger = refl; hand = refl; clerk = refl; seen = omega arith; done = λ told. told }

pub IsLater-then : (before between after : Means) → IsLater before between → IsLater between after → IsLater before after
IsLater-then before between after first second = record {
  board = second.board ∙ first.board;
  ledger = second.ledger ∙ first.ledger;
  hand = second.hand ∙ first.hand;
  clerk = second.clerk ∙ first.clerk;
  seen = omega (arith, first.seen, second.seen);
  done = λ told. second.done (first.done told);
}

-- a branch that is left is one of the scenario, and was tried if it is told to be
pub todo_right : (bounds : Bounds) (scenario : Scenario) (before after : Means) (first put : List Region) (low : ℕ) (boxes : List Region) (front rest : List Piece) (branch : Branch) (tried : Bool) → IsGrown bounds scenario before after first put low boxes (front ++ Todo branch tried ∷ rest) → IsPiece scenario after.hand.seen put (Todo branch tried)
todo_right bounds scenario before after first put low boxes front rest branch tried grown =
    let P = IsPiece scenario after.hand.seen put in
    All-head P (Todo branch tried) rest (All-parts P front (Todo branch tried ∷ rest) grown.way.trees.each).1

pub IsGrown-start : (bounds : Bounds) (scenario : Scenario) (means : Means) (put : List Region) (low : ℕ) (branch : Branch) (tried : Bool) → IsPiece scenario means.hand.seen put (Todo branch tried) → IsGrown bounds scenario means means put put low (branch.region ∷ []) (Todo branch tried ∷ [])
IsGrown-start bounds scenario means put low branch tried is = record {
  later = IsLater-same means;
  tickets = 0;
  spent = omega arith;
  way = IsUnderWay-start bounds scenario means.hand.seen put low branch tried is;
}

pub IsGrown-turned : (better : FrontsBetter) (bounds : Bounds) (scenario : Scenario) (may_stop : Bool) (most : ℕ) (before between after : Means) (first put : List Region) (low : ℕ) (boxes : List Region) (front rest : List Piece) (branch : Branch) (tried : Bool) (turn : Turn) → IsTakenUp bounds scenario may_stop most branch between after (Turned turn) → IsGrown bounds scenario before between first put low boxes (front ++ Todo branch tried ∷ rest) → IsGrown bounds scenario before after first put low boxes (front ++ (pieces_of turn ++ rest))
IsGrown-turned better bounds scenario may_stop most before between after first put low boxes front rest branch tried turn taken grown =
    let pieces = front ++ Todo branch tried ∷ rest in
    let way = IsUnderWay-better better bounds scenario between.hand.seen after.hand.seen first put low boxes pieces grown.tickets taken.later.seen grown.way in
    record {
      later = IsLater-then before between after grown.later taken.later;
      tickets = grown.tickets + 1;
      spent = omega (arith, taken.ticket.0, grown.spent);
      way = IsUnderWay-turned bounds scenario after.hand.seen first put low boxes front rest branch tried grown.tickets turn taken.ticket.3 way;
    }

pub IsGrown-put : (better : FrontsBetter) (bounds : Bounds) (scenario : Scenario) (may_stop : Bool) (most : ℕ) (before between after : Means) (first put : List Region) (low : ℕ) (boxes : List Region) (front rest : List Piece) (branch : Branch) (was_tried : Bool) (split : Node) (half other : Branch) (tried : Bool) (number : ℕ) → IsTakenUp bounds scenario may_stop most branch between after (Turned (Halves split half other tried)) → number ≡ length put → low ≤ length put → IsGrown bounds scenario before between first put low boxes (front ++ Todo branch was_tried ∷ rest) → IsGrown bounds scenario before after first (put ++ half.region ∷ []) low boxes (front ++ (parted split (Pushed number) other tried ++ rest))
IsGrown-put better bounds scenario may_stop most before between after first put low boxes front rest branch was_tried split half other tried number taken same below grown =
    let pieces = front ++ Todo branch was_tried ∷ rest in
    let way = IsUnderWay-better better bounds scenario between.hand.seen after.hand.seen first put low boxes pieces grown.tickets taken.later.seen grown.way in
    record {
      later = IsLater-then before between after grown.later taken.later;
      tickets = grown.tickets + 1;
      spent = omega (arith, taken.ticket.0, grown.spent);
      way = IsUnderWay-put bounds scenario after.hand.seen first put low boxes front rest branch was_tried grown.tickets split half other tried number taken.ticket.3 same below way;
    }

pub IsGrown-left : (better : FrontsBetter) (bounds : Bounds) (scenario : Scenario) (may_stop : Bool) (most : ℕ) (before between after : Means) (first put : List Region) (low : ℕ) (boxes : List Region) (front rest : List Piece) (branch left : Branch) (tried : Bool) → IsTakenUp bounds scenario may_stop most branch between after (Left left) → IsGrown bounds scenario before between first put low boxes (front ++ Todo branch tried ∷ rest) → IsGrown bounds scenario before after first put low boxes (front ++ Todo left tried ∷ rest)
IsGrown-left better bounds scenario may_stop most before between after first put low boxes front rest branch left tried taken grown =
    let same = subst (λ (b : Branch). IsGrown bounds scenario before between first put low boxes (front ++ Todo b tried ∷ rest)) (sym taken.ticket.0) grown in
    record {
      later = IsLater-then before between after same.later taken.later;
      tickets = same.tickets;
      spent = omega (arith, taken.ticket.1, same.spent);
      way = IsUnderWay-better better bounds scenario between.hand.seen after.hand.seen first put low boxes (front ++ Todo left tried ∷ rest) same.tickets taken.later.seen same.way;
    }

-- where nothing was put, there is no place, and so none below any number
pub IsGrown-kept : (bounds : Bounds) (scenario : Scenario) (before after : Means) (low : ℕ) (boxes : List Region) (pieces : List Piece) → IsGrown bounds scenario before after [] [] 0 boxes pieces → IsGrown bounds scenario before after [] [] low boxes pieces
IsGrown-kept bounds scenario before after low boxes pieces grown =
    let way = grown.way in
    let Q : ℕ → Type 0 = λ n. low ≤ n in
    let none = places_none scenario after.hand.seen pieces way.trees.each in
    let trees : ArePieces bounds scenario after.hand.seen [] low boxes pieces = record {
      tree = way.trees.tree;
      above = subst (λ (ns : List ℕ). All Q ns) (sym none) (All-nil Q);
      each = way.trees.each;
    } in
    record {
      later = grown.later;
      tickets = grown.tickets;
      spent = grown.spent;
      way = record { trees = trees; places = way.places; nodes = way.nodes; more = way.more };
    }

-- what is over stays so
pub over_later : (may_stop : Bool) (before after : Means) → IsLater before after → IsOver may_stop before.clerk.done → IsOver may_stop after.clerk.done
over_later may_stop before after later over = elim over [ inl done ↦ inl (later.done done) | inr stops ↦ inr stops ]

-- other pieces may leave the same regions
pub IsLeftAtEnd-by : (may_stop : Bool) (means : Means) (pieces others : List Piece) → left_regions others ≡ left_regions pieces → IsLeftAtEnd may_stop means pieces → IsLeftAtEnd may_stop means others
IsLeftAtEnd-by may_stop means pieces others same left =
    elim left [ inl none ↦ inl (same ∙ none) | inr over ↦ inr over ]

-- a ticket was spent, and no region more is left
pub left_same : (bounds : Bounds) (scenario : Scenario) (may_stop : Bool) (most : ℕ) (between after : Means) (pieces others : List Piece) (branch : Branch) (turn : Turn) → IsTakenUp bounds scenario may_stop most branch between after (Turned turn) → left_regions others ≡ left_regions pieces → IsLeftAtEnd may_stop between pieces → IsLeftAtEnd may_stop after others
left_same bounds scenario may_stop most between after pieces others branch turn taken same before = elim before [
  | inl none ↦ inl (same ∙ none)
  | inr over ↦ inr (over_later may_stop between after taken.later over)
]
