-- Where a search stands, between two regions that it takes up.
use Rattle.std.specs.Prelude.{◌≡◌, ℕ, ◌+◌, ◌≤◌, false, List, [], ◌∷◌, ◌++◌, length, map, reverse}
use Rattle.std.specs.List.{All}
use Rattle.convoy_scenario.specs.Scenario.{Scenario}
use Rattle.convoy_packets.specs.Assignment.{ranges_of}
use Rattle.convoy_packets.specs.Table.{least_of}
use Rattle.convoy_sim.specs.Delivery.{latency_of}
use Rattle.convoy_sim.specs.Record.{Record}
use Rattle.convoy_certificate.specs.Certificate.{IsNode}
use Rattle.convoy_certificate.specs.declared.node.Node.{Node}
use Rattle.convoy_regions.specs.Regions.{IsRegion, root_region}
use Rattle.convoy_branch.specs.declared.bounds.Bounds.{Bounds}
use Rattle.convoy_branch.specs.declared.search.Search.{Search}
use Rattle.convoy_branch.specs.declared.search.Work.{Work}
use Rattle.convoy_branch.specs.declared.search.Work.TheVariants.{Branch, Write}
use Rattle.convoy_branch.specs.declared.step.Turn.{Turn}
use Rattle.convoy_branch.specs.declared.step.Turn.TheVariants.{Closed, Halves}
use Rattle.convoy_branch.specs.Fronts.{AreFronts, FrontNode, Spent, Left, spent_in}
use Rattle.convoy_branch.specs.Steps.{IsTriedIf}
use Rattle.convoy_branch.specs.Uppers.{IsRaised}

-- the node of the front that a piece of work stands for
abbrev pub front_of : Work → FrontNode
front_of (Branch branch tried) = Left branch.region
front_of (Write node) = Spent node

-- the front: the work that is left, and then the nodes that are written, the last one first
abbrev pub front_nodes : List Work → List Node → List FrontNode
front_nodes work nodes = map front_of work ++ map Spent (reverse nodes)

-- what is left, where that is the best latency: a region of the scenario, whose run has no greater latency if it is told to be tried, or a node that may stand in a certificate
abbrev pub IsWork : Scenario → ℕ → Work → Type 0
IsWork scenario best (Branch branch tried) =
    IsRegion scenario branch.region × IsTriedIf scenario branch.region tried best × (branch.scenario ≡ scenario)
IsWork scenario best (Write node) = IsNode scenario node

-- The search by those bounds has come to this: its best record, the work that is left, the nodes that are written, and the tickets that were spent.
pub record IsSearching (bounds : Bounds) (scenario : Scenario) (best : Record) (work : List Work) (nodes : List Node) (tickets : ℕ) : Type 0 where
  pub of_scenario : best.scenario ≡ scenario
  pub least : latency_of scenario (least_of (ranges_of scenario)) ≤ best.latency
  -- the front is a tree over the root, and a ticket was spent for each of its nodes, but for the regions that are left
  pub tree : AreFronts bounds scenario best.latency (root_region scenario ∷ []) (front_nodes work nodes)
  pub spent : length (spent_in (front_nodes work nodes)) ≡ tickets
  pub all_work : All (IsWork scenario best.latency) work
  pub all_nodes : All (IsNode scenario) nodes

-- a search has spent a ticket for the region that was next
pub record HasTurned (bounds : Bounds) (scenario : Scenario) (old new : Search) : Type 0 where
  pub searching : IsSearching bounds scenario new.best new.work.items new.nodes.items new.tickets
  pub ticket : new.tickets ≡ old.tickets + 1
  pub few : length new.work.items ≤ length old.work.items + 3

-- the work that is left, and the nodes that are written, after a turn: the second half of a split is taken up first
abbrev pub work_after : List Work → Turn → List Work
work_after work (Closed node) = work
work_after work (Halves split first second tried) =
    ((work ++ Write split ∷ []) ++ Branch first false ∷ []) ++ Branch second tried ∷ []

abbrev pub nodes_after : List Node → Turn → List Node
nodes_after nodes (Closed node) = nodes ++ node ∷ []
nodes_after nodes (Halves split first second tried) = nodes

-- what a piece of work raises the best latency to: a region that is left, and nothing else
abbrev pub IsRaisedOver : Bounds → Scenario → Work → ℕ → ℕ → Type 0
IsRaisedOver bounds plan (Branch branch tried) best raised = IsRaised bounds plan branch.region best raised
IsRaisedOver bounds plan (Write node) best raised = raised ≡ best
