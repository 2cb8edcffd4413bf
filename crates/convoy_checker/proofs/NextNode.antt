-- One node more: the regions that are left after it.
use Rattle.std.proofs.Common.{◌≡◌, ℕ, false, List, [], ◌∷◌, drop, Option, Some, None, refl, ap, subst, sym}
use Rattle.std.specs.List.{All, slice_get}
use Rattle.std.specs.Option.{is_some}
use Rattle.std.proofs.lemmas.List.Elements.{All-append, All-head, All-tail}
use Rattle.convoy_scenario.specs.Scenario.{Scenario}
use Rattle.convoy_certificate.specs.declared.node.Node.{Node}
use Rattle.convoy_certificate.specs.declared.node.Node.TheVariants.{Split, Order, Bound, Point, Stamp, Lead}
use Rattle.convoy_intervals.specs.Boxes.{Box}
use Rattle.convoy_regions.specs.Stages.{Precedence}
use Rattle.convoy_regions.specs.Regions.{Region, IsRegion}
use Rattle.convoy_regions.specs.RegionLaws.{HalvesAreRegions}
use Rattle.convoy_checker.specs.declared.refused.Refused.{Refused}
use Rattle.convoy_checker.specs.Checks.{node_fault}
use Rattle.convoy_checker.specs.Trees.{regions_below}
use Rattle.convoy_checker.specs.Walks.{regions_after, CanStand}
use Rattle.convoy_checker.proofs.Covering.{below_are_regions}
use Rattle.convoy_checker.proofs.Faults.{node_none}

-- a list by its first element
pub nil_from_get : (regions : List Region) → slice_get regions 0 ≡ None → regions ≡ []
nil_from_get [] is = refl
nil_from_get (region ∷ regions) is = cc

pub cons_from_get : (regions : List Region) (region : Region) → slice_get regions 0 ≡ Some region → regions ≡ region ∷ drop 1 regions
cons_from_get [] region is = cc
cons_from_get (first ∷ regions) region is =
    let same : first ≡ region = cc in
    ap (λ r. r ∷ regions) same

-- what is not some fault is none
pub none_from_test : (fault : Option Refused) → false ≡ is_some fault → fault ≡ None
none_from_test None test = refl
none_from_test (Some fault) test = cc

-- the regions that are left stay regions of the scenario
pub after_are_regions : (plan : Scenario) (latency number : ℕ) (node : Node) (regions next : List Region) (region : Region) → HalvesAreRegions → slice_get regions 0 ≡ Some region → node_fault plan latency number node region ≡ None → next ≡ regions_after plan node regions → All (IsRegion plan) regions → All (IsRegion plan) next
after_are_regions plan latency number node regions next region halves first none after all =
    let others = drop 1 regions in
    let whole = cons_from_get regions region first in
    let these = subst (λ rs. All (IsRegion plan) rs) whole all in
    let right = (node_none plan latency number node region).0 none in
    let below = below_are_regions plan latency halves node region (All-head (IsRegion plan) region others these) right in
    rw (after, whole) (All-append (IsRegion plan) (regions_below plan node region) others below (All-tail (IsRegion plan) region others these))

-- a node without a fault over the first region can stand there
stands_first : (plan : Scenario) (latency number : ℕ) (node : Node) (region : Region) (others : List Region) → node_fault plan latency number node region ≡ None → CanStand plan node (region ∷ others)
stands_first plan latency number (Split packet at) region others none = (node_none plan latency number (Split packet at) region).0 none
stands_first plan latency number (Order first second) region others none = (node_none plan latency number (Order first second) region).0 none
stands_first plan latency number Bound region others none = tt
stands_first plan latency number Point region others none = tt
stands_first plan latency number Stamp region others none = tt
stands_first plan latency number (Lead named) region others none = tt

pub can_stand : (plan : Scenario) (latency number : ℕ) (node : Node) (regions : List Region) (region : Region) → slice_get regions 0 ≡ Some region → node_fault plan latency number node region ≡ None → CanStand plan node regions
can_stand plan latency number node regions region first none =
    rw (cons_from_get regions region first) (stands_first plan latency number node region (drop 1 regions) none)

-- a region is that of its parts
pub from_parts : (region : Region) (ranges : Box) (before : List Precedence) → ranges ≡ region.ranges → before ≡ region.before → region ≡ record { ranges = ranges; before = before }
from_parts region ranges before same kept = sym (λ i. record { ranges = same i; before = kept i })
