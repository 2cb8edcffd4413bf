-- What is proved of trees and certificates. Each statement is the one clause of the function of its name in the crate's
-- module `tree_laws`.
use Rattle.std.specs.Prelude.{◌≡◌, ◌↔◌, ℕ, ◌≤◌, List, ◌∷◌, Ok}
use Rattle.convoy_scenario.specs.Scenario.{Scenario}
use Rattle.convoy_scenario.specs.WellFormed.{IsScenario}
use Rattle.convoy_packets.specs.Assignment.{Schedule}
use Rattle.convoy_packets.specs.Order.{IsOrder}
use Rattle.convoy_sim.specs.Delivery.{latency_of}
use Rattle.convoy_certificate.specs.Certificate.{Certificate, IsCertificate}
use Rattle.convoy_certificate.specs.declared.node.Node.{Node}
use Rattle.convoy_certificate.specs.declared.node.Node.TheVariants.{Split}
use Rattle.convoy_intervals.specs.Boxes.{CanSplit}
use Rattle.convoy_regions.specs.Regions.{Region, IsMember, IsRegion}
use Rattle.convoy_checker.specs.Checks.{checked}
use Rattle.convoy_checker.specs.Leaves.{ClosesByBound, ClosesByLeads, ClosesByPoint, ClosesByStamps}
use Rattle.convoy_checker.specs.Validity.{AreHalfTrees, IsTree, IsTreeOver, IsValid}
use Rattle.convoy_sim.specs.Greatest.{IsGreatest, IsUpper}

-- this way of closing regions is sound: if it closes a region for a latency, no member of the region, with an order of the scenario's ties, has a greater latency
abbrev pub Covers : (Scenario → ℕ → Region → Type 0) → Type 0
Covers Closes =
    (scenario : Scenario) (latency : ℕ) (region : Region) (schedule : Schedule)
    → IsScenario scenario
    → IsRegion scenario region
    → Closes scenario latency region
    → IsMember scenario region schedule
    → IsOrder scenario schedule.order
    → latency_of scenario schedule ≤ latency

-- closing by the plain bound is sound
abbrev pub BoundLeavesCover : Type 0
BoundLeavesCover = Covers ClosesByBound

-- closing as a point is sound
abbrev pub PointLeavesCover : Type 0
PointLeavesCover = Covers ClosesByPoint

-- closing by the stamp bound is sound
abbrev pub StampLeavesCover : Type 0
StampLeavesCover = Covers ClosesByStamps

-- closing by leads is sound
abbrev pub LeadLeavesCover : Type 0
LeadLeavesCover = Covers ClosesByLeads

-- nodes that begin with a split by a delay are a tree over a region exactly if the region can be split so, and after the split
-- comes a tree over its lower half, and then a tree over its upper half
abbrev pub SplitIsTwoTrees : Type 0
SplitIsTwoTrees =
    (scenario : Scenario) (latency : ℕ) (region : Region) (packet at : ℕ) (nodes : List Node)
    → IsTreeOver scenario latency region (Split packet at ∷ nodes)
    ↔ CanSplit region.ranges packet at × AreHalfTrees scenario latency region packet at nodes

-- if the nodes are a tree over the root and right for a latency, no assignment has a greater latency
abbrev pub TreesCover : Type 0
TreesCover =
    (scenario : Scenario) (latency : ℕ) (nodes : List Node)
    → IsScenario scenario
    → IsTree scenario latency nodes
    → IsUpper scenario latency

-- the latency of a well-formed and valid certificate is the greatest of its scenario
abbrev pub ValidIsGreatest : Type 0
ValidIsGreatest =
    (certificate : Certificate)
    → IsCertificate certificate
    → IsValid certificate
    → IsGreatest certificate.scenario certificate.latency

-- checking answers the latency exactly if the certificate is valid
abbrev pub CheckedIsValid : Type 0
CheckedIsValid = (certificate : Certificate) → (checked certificate ≡ Ok certificate.latency) ↔ IsValid certificate
