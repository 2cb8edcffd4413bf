-- What makes a certificate valid.
use Rattle.std.specs.Prelude.{◌≡◌, ℕ, List, [], ◌∷◌, ◌++◌}
use Rattle.convoy_scenario.specs.Scenario.{Scenario}
use Rattle.convoy_sim.specs.Delivery.{latency_of}
use Rattle.convoy_certificate.specs.Certificate.{Certificate}
use Rattle.convoy_certificate.specs.declared.node.Node.{Node}
use Rattle.convoy_regions.specs.Regions.{Region, root_region, lower_half, upper_half}
use Rattle.convoy_checker.specs.Leaves.{IsRight}
use Rattle.convoy_checker.specs.Trees.{AreTrees, regions_below}

-- the nodes are one tree over the region, each of them right over its own region for the stated latency
abbrev pub IsTreeOver : Scenario → ℕ → Region → List Node → Type 0
IsTreeOver scenario latency region nodes = AreTrees (regions_below scenario) (IsRight scenario latency) (region ∷ []) nodes

-- the nodes are one tree over the root
abbrev pub IsTree : Scenario → ℕ → List Node → Type 0
IsTree scenario latency nodes = IsTreeOver scenario latency (root_region scenario) nodes

-- the nodes are a tree over the lower half of the region, followed by a tree over the upper half
pub record AreHalfTrees (scenario : Scenario) (latency : ℕ) (region : Region) (packet at : ℕ) (nodes : List Node) : Type 0 where
  pub lower : List Node
  pub upper : List Node
  pub whole : nodes ≡ lower ++ upper
  pub lower_tree : IsTreeOver scenario latency (lower_half region packet at) lower
  pub upper_tree : IsTreeOver scenario latency (upper_half region packet at) upper

-- The certificate's schedule has the stated latency, and the certificate's nodes are a tree over the root, each node
-- right for that latency. That no other schedule has a greater one is not said here: it follows (`ValidIsGreatest`).
pub record IsValid (certificate : Certificate) : Type 0 where
  pub latency : latency_of certificate.scenario certificate.schedule ≡ certificate.latency
  pub tree : IsTree certificate.scenario certificate.latency certificate.nodes
