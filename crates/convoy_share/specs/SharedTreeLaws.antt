-- What is proved of trees that several workers search. Each is the one clause of the function of its name in the crate's module `shared_tree_laws`.
use Rattle.std.specs.Prelude.{◌≡◌, ℕ, ◌+◌, ◌≤◌, ◌<◌, max, List, [], ◌∷◌, ◌++◌, length, replicate, slice_set}
use Rattle.convoy_scenario.specs.Scenario.{Scenario}
use Rattle.convoy_packets.specs.Assignment.{ranges_of}
use Rattle.convoy_packets.specs.Table.{least_of}
use Rattle.convoy_sim.specs.Delivery.{latency_of}
use Rattle.convoy_sim.specs.Greatest.{IsReached}
use Rattle.convoy_branch.specs.declared.bounds.Bounds.{Bounds}
use Rattle.convoy_branch.specs.Uppers.{IsUpperOf}
use Rattle.convoy_regions.specs.Regions.{Region}
use Rattle.convoy_checker.specs.Validity.{IsTree}
use Rattle.convoy_branch.specs.Fronts.{IsFront, left_in}
use Rattle.convoy_share_deque.specs.declared.task.Task.{Task}
use Rattle.convoy_share_deque.specs.Tasks.{AreAllTaken}
use Rattle.convoy_share.specs.declared.piece.Piece.{Piece}
use Rattle.convoy_share.specs.declared.piece.Piece.TheVariants.{Pushed}
use Rattle.convoy_share.specs.Pieces.{front, nodes_in}
use Rattle.convoy_share.specs.Subtrees.{Subtree, IsResult}
use Rattle.convoy_share.specs.Filling.{slot_at, IsPlacing, IsFilling}

-- a result and that of a thief are one result, for the greater latency
abbrev pub ResultsJoin : Type 0
ResultsJoin =
    (bounds : Bounds) (scenario : Scenario) (seen other_seen tickets other_tickets roots : ℕ) (put : List Region) (taken other_taken : List Task) (subtrees others : List Subtree)
    → IsResult bounds scenario seen tickets roots put taken subtrees
    → IsResult bounds scenario other_seen other_tickets 0 [] other_taken others
    → IsResult bounds scenario (max seen other_seen) (tickets + other_tickets) roots put (taken ++ other_taken) (subtrees ++ others)

-- where each branch put was taken, once, the trees can be put into slots by their numbers
abbrev pub TreesArePlaced : Type 0
TreesArePlaced =
    (bounds : Bounds) (scenario : Scenario) (seen tickets roots : ℕ) (put : List Region) (taken : List Task) (subtrees : List Subtree)
    → IsResult bounds scenario seen tickets roots put taken subtrees
    → AreAllTaken put taken
    → IsPlacing bounds scenario seen put subtrees (replicate (length put) []) taken subtrees

-- a place is filled by the tree of its number
abbrev pub PlacesAreFilled : Type 0
PlacesAreFilled =
    (bounds : Bounds) (scenario : Scenario) (seen tickets : ℕ) (put : List Region) (done rest : List Piece) (number : ℕ) (slots : List (List Piece))
    → IsFilling bounds scenario seen tickets put done (Pushed number ∷ rest) slots
    → IsFilling bounds scenario seen tickets put done (slot_at slots number ++ rest) (slice_set slots number [])

-- with every place filled and no region left, the nodes are a tree that closes the root, and number the tickets
abbrev pub WholeTreesClose : Type 0
WholeTreesClose =
    (bounds : Bounds) (scenario : Scenario) (seen tickets : ℕ) (put : List Region) (done : List Piece) (slots : List (List Piece))
    → left_in (front put done) ≡ []
    → IsFilling bounds scenario seen tickets put done [] slots
    → IsTree scenario seen (nodes_in done) × (length (nodes_in done) ≡ tickets)

-- with every place filled and regions left, the pieces are a front
abbrev pub OpenTreesAreFronts : Type 0
OpenTreesAreFronts =
    (bounds : Bounds) (scenario : Scenario) (seen tickets upper : ℕ) (put : List Region) (done : List Piece) (slots : List (List Piece))
    → 0 < length (left_in (front put done))
    → IsReached scenario seen
    → latency_of scenario (least_of (ranges_of scenario)) ≤ seen
    → IsUpperOf bounds scenario seen (left_in (front put done)) upper
    → IsFilling bounds scenario seen tickets put done [] slots
    → IsFront bounds scenario seen upper tickets
