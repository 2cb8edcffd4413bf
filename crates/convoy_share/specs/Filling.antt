-- How the trees of all tasks become one.
use Rattle.std.specs.Prelude.{◌≡◌, ℕ, ◌+◌, ◌<◌, List, [], ◌∷◌, ◌++◌, length, slice_index_or}
use Rattle.std.specs.List.{All, sum_by}
use Rattle.convoy_shares.specs.Shares.{once_below}
use Rattle.convoy_ledger.specs.Tickets.{times}
use Rattle.convoy_scenario.specs.Scenario.{Scenario}
use Rattle.convoy_regions.specs.Regions.{Region, any_order, root_region}
use Rattle.convoy_branch.specs.declared.bounds.Bounds.{Bounds}
use Rattle.convoy_share_deque.specs.declared.task.Task.{Task}
use Rattle.convoy_share_deque.specs.Tasks.{tasks_at, AreAllTaken, IsPut}
use Rattle.convoy_share.specs.declared.piece.Piece.{Piece}
use Rattle.convoy_share.specs.Pieces.{AreTreesOf, places_in, spent, IsPiece}
use Rattle.convoy_share.specs.Subtrees.{Subtree, IsSubtree, AreSubtrees, IsResult}

-- the trees by number; one that is not there yet, or that stands in its place already, is empty
abbrev pub slot_at : List (List Piece) → ℕ → List Piece
slot_at slots number = slice_index_or slots number []

-- 1 where the tree is there
abbrev pub there : List Piece → ℕ
there [] = 0
there (piece ∷ pieces) = 1

-- a tree that is there stands over the branch that was put under its number
abbrev pub IsSlot : Bounds → Scenario → ℕ → List Region → ℕ → List Piece → Type 0
IsSlot bounds scenario seen put number [] = Unit {0}
IsSlot bounds scenario seen put number (piece ∷ pieces) = IsSubtree bounds scenario seen put number (slice_index_or put number (any_order [])) (piece ∷ pieces)

-- Some of all the trees have their slots, and the others are still to be put into theirs. What is added up over them stays the same.
pub record IsPlacing (bounds : Bounds) (scenario : Scenario) (seen : ℕ) (put : List Region) (all : List Subtree) (slots : List (List Piece)) (tasks : List Task) (subtrees : List Subtree) : Type 0 where
  pub each_slot : (number : ℕ) → IsSlot bounds scenario seen put number (slot_at slots number)
  pub size : length slots ≡ length put
  pub trees : AreSubtrees bounds scenario seen put tasks subtrees
  pub once : (x : ℕ) → there (slot_at slots x) + tasks_at x tasks ≡ once_below x (length put)
  pub right : All (IsPut put) tasks
  pub sums : (f : List Piece → ℕ) → f [] ≡ 0 → sum_by f slots + sum_by (λ subtree. f subtree.pieces) subtrees ≡ sum_by (λ subtree. f subtree.pieces) all

-- The trees of a whole result can be put into slots and filled: each of the branches put, `count` of them, was taken, once, and the first one is the root.
pub record CanBeFilled (bounds : Bounds) (scenario : Scenario) (seen tickets count : ℕ) (put : List Region) (taken : List Task) (subtrees : List Subtree) : Type 0 where
  pub result : IsResult bounds scenario seen tickets 1 put taken subtrees
  pub all : AreAllTaken put taken
  pub count_is : count ≡ length put
  pub some_put : 0 < length put
  pub root : slice_index_or put 0 (any_order []) ≡ root_region scenario

-- So far done, and the rest, in which there are places. Each tree that is there has one place.
pub record IsFilling (bounds : Bounds) (scenario : Scenario) (seen tickets : ℕ) (put : List Region) (done rest : List Piece) (slots : List (List Piece)) : Type 0 where
  pub tree : AreTreesOf bounds scenario seen put (root_region scenario ∷ []) (done ++ rest)
  pub settled : places_in done ≡ []
  pub each_done : All (IsPiece scenario seen put) done
  pub each_rest : All (IsPiece scenario seen put) rest
  pub each_slot : (number : ℕ) → IsSlot bounds scenario seen put number (slot_at slots number)
  pub once : (x : ℕ) → times x (places_in rest) + sum_by (λ slot. times x (places_in slot)) slots ≡ there (slot_at slots x)
  pub nodes : spent (done ++ rest) + sum_by spent slots ≡ tickets
