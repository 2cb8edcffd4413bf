-- What a worker promises of the trees that it searched.
use Rattle.std.specs.Prelude.{◌≡◌, ℕ, ◌+◌, ◌≤◌, List, [], ◌∷◌, ◌++◌, length}
use Rattle.std.specs.List.{All, sum_by}
use Rattle.convoy_shares.specs.Shares.{once_below}
use Rattle.convoy_ledger.specs.Tickets.{times}
use Rattle.convoy_scenario.specs.Scenario.{Scenario}
use Rattle.convoy_regions.specs.Regions.{Region}
use Rattle.convoy_branch.specs.declared.bounds.Bounds.{Bounds}
use Rattle.convoy_share_deque.specs.declared.task.Task.{Task}
use Rattle.convoy_share.specs.declared.piece.Piece.{Piece}
use Rattle.convoy_share.specs.Pieces.{AreTreesOf, places_in, spent, IsPiece}

-- a tree, as its pieces, with the number of the branch that it is over
pub record Subtree : Type 0 where
  pub number : ℕ
  pub pieces : List Piece

-- Trees over those regions, as far as they were searched: each node is right for that latency, and the branches that are pushed in them have numbers from `low` on.
pub record ArePieces (bounds : Bounds) (scenario : Scenario) (seen : ℕ) (put : List Region) (low : ℕ) (regions : List Region) (pieces : List Piece) : Type 0 where
  pub tree : AreTreesOf bounds scenario seen put regions pieces
  pub above : All (λ (number : ℕ). low ≤ number) (places_in pieces)
  pub each : All (IsPiece scenario seen put) pieces

-- a tree over a branch: what is pushed in it has a greater number
abbrev pub IsSubtree : Bounds → Scenario → ℕ → List Region → ℕ → Region → List Piece → Type 0
IsSubtree bounds scenario seen put number branch pieces = ArePieces bounds scenario seen put (number + 1) (branch ∷ []) pieces

-- there is one for each task, in order
abbrev pub AreSubtrees : Bounds → Scenario → ℕ → List Region → List Task → List Subtree → Type 0
AreSubtrees bounds scenario seen put [] [] = Unit {0}
AreSubtrees bounds scenario seen put (task ∷ tasks) (subtree ∷ subtrees) =
    (subtree.number ≡ task.number)
    × IsSubtree bounds scenario seen put task.number task.branch.region subtree.pieces
    × AreSubtrees bounds scenario seen put tasks subtrees
AreSubtrees bounds scenario seen put tasks subtrees = ⊥

-- how often a branch of that number has a place in the trees
abbrev pub places_of : ℕ → List Subtree → ℕ
places_of x subtrees = sum_by (λ subtree. times x (places_in subtree.pieces)) subtrees

-- the nodes of all of them
abbrev pub spent_on : List Subtree → ℕ
spent_on subtrees = sum_by (λ subtree. spent subtree.pieces) subtrees

-- A worker's result: a tree for each task that it took. Each branch that it put has one place, but for the first `roots` of them, over which no tree stands; and the nodes number the tickets. An owner has one root, and a thief puts nothing and has none.
pub record IsResult (bounds : Bounds) (scenario : Scenario) (seen tickets roots : ℕ) (put : List Region) (taken : List Task) (subtrees : List Subtree) : Type 0 where
  pub trees : AreSubtrees bounds scenario seen put taken subtrees
  pub places : (x : ℕ) → places_of x subtrees + once_below x roots ≡ once_below x (length put)
  pub nodes : spent_on subtrees ≡ tickets

-- What a worker makes of regions that it takes up, from where `before` was put: the branches that it puts have their places here, and a ticket was spent for each node.
pub record IsUnderWay (bounds : Bounds) (scenario : Scenario) (seen : ℕ) (before put : List Region) (low : ℕ) (regions : List Region) (pieces : List Piece) (tickets : ℕ) : Type 0 where
  pub trees : ArePieces bounds scenario seen put low regions pieces
  pub places : (x : ℕ) → times x (places_in pieces) + once_below x (length before) ≡ once_below x (length put)
  pub nodes : spent pieces ≡ tickets
  pub more : (later : List Region) × (put ≡ before ++ later)
