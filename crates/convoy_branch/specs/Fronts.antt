-- The front of a search: how far its tree has come.
use Rattle.std.specs.Prelude.{◌≡◌, ◌≢◌, ℕ, ◌≤◌, ◌<◌, false, List, [], ◌∷◌, length}
use Rattle.std.specs.List.{filter_map}
use Rattle.std.specs.Prelude.{Option, Some, None}
use Rattle.convoy_scenario.specs.Scenario.{Scenario}
use Rattle.convoy_packets.specs.Assignment.{ranges_of}
use Rattle.convoy_packets.specs.Table.{least_of}
use Rattle.convoy_sim.specs.Delivery.{latency_of}
use Rattle.convoy_certificate.specs.declared.node.Node.{Node}
use Rattle.convoy_certificate.specs.declared.node.Node.TheVariants as kinds
use Rattle.convoy_branch.specs.declared.bounds.Bounds.{Bounds}
use Rattle.convoy_branch.specs.declared.bounds.Bounds.TheVariants as bounds_of
use Rattle.convoy_branch.specs.declared.step.Turn.{Turn}
use Rattle.convoy_branch.specs.declared.step.Turn.TheVariants.{Closed, Halves}
use Rattle.convoy_regions.specs.Regions.{Region, root_region, run_of}
use Rattle.convoy_checker.specs.Leaves.{ClosesByBound, ClosesByLeads, ClosesByPoint, ClosesByStamps}
use Rattle.convoy_checker.specs.Trees.{AreTrees, regions_below}
use Rattle.convoy_sim.specs.Greatest.{IsReached}
use Rattle.convoy_branch.specs.SearchBounds.{closes_for}
use Rattle.convoy_branch.specs.Steps.{IsSplitOf}
use Rattle.convoy_branch.specs.Uppers.{IsUpperOf}

-- a node of a front: one of the tree, for which a ticket was spent, or a region that is left to be searched
pub data FrontNode : Type 0 where
  Spent : Node → FrontNode
  Left : Region → FrontNode

-- the regions below a node of a front; below a region that is left there are none yet
abbrev pub front_below : Scenario → FrontNode → Region → List Region
front_below scenario (Spent node) region = regions_below scenario node region
front_below scenario (Left branch) region = []

-- a split of a search splits its region, which the search did not close for the latency that was known; that was no less than the latency of the region's run, and is at most the best one
pub record IsSearchedSplit (bounds : Bounds) (scenario : Scenario) (best : ℕ) (split : Node) (region : Region) : Type 0 where
  pub part : IsSplitOf scenario split region
  pub known : ℕ
  pub open_region : closes_for bounds scenario region known ≡ false
  pub tried : latency_of scenario (run_of scenario region) ≤ known
  pub passed : known ≤ best

-- a node of a search is right over its region, where that is the best latency; only a search that asks for stamp bounds has stamp leaves, and only one by leads has lead leaves, each for a latency that was known
abbrev pub IsSearched : Bounds → Scenario → ℕ → Node → Region → Type 0
IsSearched bounds scenario best (kinds.Split packet at) region = IsSearchedSplit bounds scenario best (kinds.Split packet at) region
IsSearched bounds scenario best (kinds.Order first second) region = IsSearchedSplit bounds scenario best (kinds.Order first second) region
IsSearched bounds scenario best kinds.Bound region = ClosesByBound scenario best region
IsSearched bounds scenario best kinds.Point region = ClosesByPoint scenario best region
IsSearched bounds scenario best kinds.Stamp region = (bounds ≢ bounds_of.Plain) × ClosesByStamps scenario best region
IsSearched bounds scenario best (kinds.Lead known) region = (bounds ≡ bounds_of.Lead) × (known ≤ best) × ClosesByLeads scenario known region

-- a node of a front is right over its region: what is left names the region
abbrev pub IsOfFront : Bounds → Scenario → ℕ → FrontNode → Region → Type 0
IsOfFront bounds scenario best (Spent node) region = IsSearched bounds scenario best node region
IsOfFront bounds scenario best (Left branch) region = branch ≡ region

-- the nodes are whole fronts, one over each of the regions and in their order, each node right for the best latency
abbrev pub AreFronts : Bounds → Scenario → ℕ → List Region → List FrontNode → Type 0
AreFronts bounds scenario best regions nodes = AreTrees (front_below scenario) (IsOfFront bounds scenario best) regions nodes

-- what becomes of a region, as a front: the leaf that closes it, or a split and the halves that are left
abbrev pub front_after : Turn → List FrontNode
front_after (Closed node) = Spent node ∷ []
front_after (Halves split first second tried) = Spent split ∷ Left first.region ∷ Left second.region ∷ []

-- the nodes for which tickets were spent, and the regions that are left
abbrev pub spent_node : FrontNode → Option Node
spent_node (Spent node) = Some node
spent_node (Left branch) = None

abbrev pub left_region : FrontNode → Option Region
left_region (Spent node) = None
left_region (Left branch) = Some branch

abbrev pub spent_in : List FrontNode → List Node
spent_in nodes = filter_map spent_node nodes

abbrev pub left_in : List FrontNode → List Region
left_in nodes = filter_map left_region nodes

-- The front of a search by those bounds that has not ended: with a best latency, an upper bound of all latencies, and the number of tickets that were spent.
pub record IsFront (bounds : Bounds) (scenario : Scenario) (best upper tickets : ℕ) : Type 0 where
  pub nodes : List FrontNode
  -- the nodes are a tree over the root, each of them right
  pub tree : AreFronts bounds scenario best (root_region scenario ∷ []) nodes
  -- a ticket was spent for each node, but for the regions that are left, and some are
  pub spent : length (spent_in nodes) ≡ tickets
  pub left : 0 < length (left_in nodes)
  -- some assignment has the best latency, and that of the least delays is no greater
  pub reached : IsReached scenario best
  pub least : latency_of scenario (least_of (ranges_of scenario)) ≤ best
  -- the upper bound is that of the best latency and of the regions that are left
  pub upper_is : IsUpperOf bounds scenario best (left_in nodes) upper
