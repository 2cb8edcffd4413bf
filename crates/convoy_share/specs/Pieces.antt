-- The pieces of a tree that several workers search.
use Rattle.std.specs.Prelude.{◌≡◌, ℕ, ◌<◌, List, [], length, map, slice_index_or, Bool, true, false, Option, Some, None}
use Rattle.std.specs.List.{filter_map}
use Rattle.convoy_scenario.specs.Scenario.{Scenario}
use Rattle.convoy_certificate.specs.Certificate.{IsNode}
use Rattle.convoy_certificate.specs.declared.node.Node.{Node}
use Rattle.convoy_regions.specs.Regions.{Region, any_order}
use Rattle.convoy_branch.specs.declared.bounds.Bounds.{Bounds}
use Rattle.convoy_branch.specs.Fronts.{AreFronts, FrontNode, Spent, Left}
use Rattle.convoy_branch.specs.Steps.{IsTriedIf}
use Rattle.convoy_branch.specs.Uppers.{IsRaised}
use Rattle.convoy_share.specs.declared.piece.Piece.{Piece}
use Rattle.convoy_share.specs.declared.piece.Piece.TheVariants.{Done, Todo, Pushed}

-- the node of a front that a piece stands for, where those branches were put: a branch that was pushed is a region that is left
abbrev pub front_of : List Region → Piece → FrontNode
front_of put (Done node) = Spent node
front_of put (Todo branch tried) = Left branch.region
front_of put (Pushed number) = Left (slice_index_or put number (any_order []))

abbrev pub front : List Region → List Piece → List FrontNode
front put pieces = map (front_of put) pieces

-- the pieces are trees over those regions, each node right for that latency
abbrev pub AreTreesOf : Bounds → Scenario → ℕ → List Region → List Region → List Piece → Type 0
AreTreesOf bounds scenario seen put regions pieces = AreFronts bounds scenario seen regions (front put pieces)

-- the numbers of the branches whose trees belong among the pieces
abbrev pub pushed_number : Piece → Option ℕ
pushed_number (Pushed number) = Some number
pushed_number piece = None

abbrev pub places_in : List Piece → List ℕ
places_in pieces = filter_map pushed_number pieces

-- the nodes among the pieces, and how many there are
abbrev pub done_node : Piece → Option Node
done_node (Done node) = Some node
done_node piece = None

abbrev pub nodes_in : List Piece → List Node
nodes_in pieces = filter_map done_node pieces

abbrev pub spent : List Piece → ℕ
spent pieces = length (nodes_in pieces)

-- whether a piece is a branch that is left, and the regions of those that are left
abbrev pub is_left : Piece → Bool
is_left (Todo branch tried) = true
is_left piece = false

abbrev pub todo_region : Piece → Option Region
todo_region (Todo branch tried) = Some branch.region
todo_region piece = None

abbrev pub left_regions : List Piece → List Region
left_regions pieces = filter_map todo_region pieces

-- what may stand in a tree of that scenario, where that latency was seen and those branches were put
abbrev pub IsPiece : Scenario → ℕ → List Region → Piece → Type 0
IsPiece scenario seen put (Done node) = IsNode scenario node
IsPiece scenario seen put (Todo branch tried) =
    (branch.scenario ≡ scenario) × IsTriedIf scenario branch.region tried seen
IsPiece scenario seen put (Pushed number) = number < length put

-- what a piece raises an upper bound to: a branch that is left, and nothing else
abbrev pub IsRaisedOver : Bounds → Scenario → Piece → ℕ → ℕ → Type 0
IsRaisedOver bounds scenario (Todo branch tried) upper raised = IsRaised bounds scenario branch.region upper raised
IsRaisedOver bounds scenario (Done node) upper raised = raised ≡ upper
IsRaisedOver bounds scenario (Pushed number) upper raised = raised ≡ upper
