-- A region over which a right tree stands: no member of it has a greater latency than the stated one.
use Rattle.std.specs.Prelude.{ℕ, ◌≤◌, List, [], ◌∷◌, ◌++◌, All}
use Rattle.std.proofs.Common.{arith, get_or, true, false, inl, inr, ◌≡◌, Bool, refl}
use Rattle.std.proofs.lemmas.Bool.{cases_lt}
use Rattle.std.proofs.lemmas.List.Elements.{All-nil, All-cons, All-head, All-tail, All-append}
use Rattle.convoy_scenario.specs.Scenario.{Scenario}
use Rattle.convoy_scenario.specs.WellFormed.{IsScenario}
use Rattle.convoy_packets.specs.Assignment.{Schedule}
use Rattle.convoy_packets.specs.Order.{IsOrder}
use Rattle.convoy_sim.specs.Delivery.{latency_of}
use Rattle.convoy_intervals.specs.Boxes.{CanSplit}
use Rattle.convoy_intervals.specs.BoxLaws.{HalvesPartition}
use Rattle.convoy_regions.specs.Stages.{comes_before, stage_at}
use Rattle.convoy_regions.specs.Regions.{Region, IsMember, IsRegion, can_order, first_half, lower_half, second_half, upper_half}
use Rattle.convoy_regions.specs.RegionLaws.{HalvesAreRegions, OrdersPartition}
use Rattle.convoy_certificate.specs.declared.node.Node.{Node}
use Rattle.convoy_certificate.specs.declared.node.Node.TheVariants.{Split, Order, Bound, Point, Stamp, Lead}
use Rattle.convoy_checker.specs.TreeLaws.{BoundLeavesCover, LeadLeavesCover, PointLeavesCover, StampLeavesCover}
use Rattle.convoy_checker.specs.Leaves.{IsRight}
use Rattle.convoy_checker.specs.Trees.{AreTrees, regions_below}

-- what a tree rests on: the halves of a region, and a law for each kind of leaf
pub record Grounds : Type 0 where
  pub halves : HalvesAreRegions
  pub part : HalvesPartition
  pub orders : OrdersPartition
  pub bound : BoundLeavesCover
  pub point : PointLeavesCover
  pub stamp : StampLeavesCover
  pub lead : LeadLeavesCover

-- no member of the region has a greater latency
pub record IsCovered (plan : Scenario) (latency : ℕ) (region : Region) : Type 0 where
  pub at : (schedule : Schedule) → IsMember plan region schedule → IsOrder plan schedule.order → latency_of plan schedule ≤ latency

-- the regions below a right node are regions
pub below_are_regions : (plan : Scenario) (latency : ℕ) → HalvesAreRegions → (node : Node) (region : Region) → IsRegion plan region → IsRight plan latency node region → All (IsRegion plan) (regions_below plan node region)
below_are_regions plan latency halves (Split packet at) region is_region right =
    let both = (halves plan region is_region).0 packet at right in
    let upper = upper_half region packet at in
    All-cons (IsRegion plan) (lower_half region packet at) (upper ∷ []) both.0 (All-cons (IsRegion plan) upper [] both.1 (All-nil (IsRegion plan)))
below_are_regions plan latency halves (Order first second) region is_region right =
    let both = (halves plan region is_region).1 first second right in
    let later = second_half plan region first second in
    All-cons (IsRegion plan) (first_half plan region first second) (later ∷ []) both.0 (All-cons (IsRegion plan) later [] both.1 (All-nil (IsRegion plan)))
below_are_regions plan latency halves Bound region is_region right = All-nil (IsRegion plan)
below_are_regions plan latency halves Point region is_region right = All-nil (IsRegion plan)
below_are_regions plan latency halves Stamp region is_region right = All-nil (IsRegion plan)
below_are_regions plan latency halves (Lead named) region is_region right = All-nil (IsRegion plan)

module _ (grounds : Grounds) (plan : Scenario) (lawful : IsScenario plan) (latency : ℕ) where
  -- a region that is split by a delay is covered where both halves are
  split_covers : (packet at : ℕ) (region : Region) → CanSplit region.ranges packet at → IsCovered plan latency (lower_half region packet at) → IsCovered plan latency (upper_half region packet at) → IsCovered plan latency region
  split_covers packet at region right lower upper = record { at = members } where
    members : (schedule : Schedule) → IsMember plan region schedule → IsOrder plan schedule.order → latency_of plan schedule ≤ latency
    members schedule member order =
        let part = grounds.part region.ranges packet at schedule right in
        elim (cases_lt at (get_or schedule.delays packet 0)) [
          | inl above ↦ upper.at schedule (part.1.1 (member.0, above), member.1) order
          | inr within ↦ lower.at schedule (part.0.1 (member.0, within), member.1) order
        ]

  -- and so is one that is split by an order
  either : (first second : ℕ) (region : Region) (schedule : Schedule) (test : Bool) → comes_before plan schedule (stage_at plan first) (stage_at plan second) ≡ test → can_order plan region first second ≡ true → IsCovered plan latency (first_half plan region first second) → IsCovered plan latency (second_half plan region first second) → IsMember plan region schedule → IsOrder plan schedule.order → latency_of plan schedule ≤ latency
  either first second region schedule true is right before after member order =
      before.at schedule ((grounds.orders plan region first second schedule right member).0.1 is) order
  either first second region schedule false is right before after member order =
      after.at schedule ((grounds.orders plan region first second schedule right member).1.1 is) order

  order_covers : (first second : ℕ) (region : Region) → can_order plan region first second ≡ true → IsCovered plan latency (first_half plan region first second) → IsCovered plan latency (second_half plan region first second) → IsCovered plan latency region
  order_covers first second region right before after =
      record { at = λ schedule member order. either first second region schedule _ refl right before after member order }

  -- a region is covered where its node is right and the regions below are covered
  node_covers : (node : Node) (region : Region) → IsRegion plan region → IsRight plan latency node region → All (IsCovered plan latency) (regions_below plan node region) → IsCovered plan latency region
  node_covers (Split packet at) region is_region right below =
      let lower = lower_half region packet at in
      let upper = upper_half region packet at in
      split_covers packet at region right (All-head (IsCovered plan latency) lower (upper ∷ []) below) (All-head (IsCovered plan latency) upper [] (All-tail (IsCovered plan latency) lower (upper ∷ []) below))
  node_covers (Order first second) region is_region right below =
      let before = first_half plan region first second in
      let after = second_half plan region first second in
      order_covers first second region right (All-head (IsCovered plan latency) before (after ∷ []) below) (All-head (IsCovered plan latency) after [] (All-tail (IsCovered plan latency) before (after ∷ []) below))
  node_covers Bound region is_region right below =
      record { at = λ schedule member order. grounds.bound plan latency region schedule lawful is_region right member order }
  node_covers Point region is_region right below =
      record { at = λ schedule member order. grounds.point plan latency region schedule lawful is_region right member order }
  node_covers Stamp region is_region right below =
      record { at = λ schedule member order. grounds.stamp plan latency region schedule lawful is_region right member order }
  node_covers (Lead named) region is_region right below =
      record { at = λ schedule member order. omega (arith, grounds.lead plan named region schedule lawful is_region right.1 member order, right.0) }

  -- the two parts of what holds of each of a list of regions
  parts : (regions others : List Region) → All (IsCovered plan latency) (regions ++ others) → All (IsCovered plan latency) regions × All (IsCovered plan latency) others
  parts [] others all = (All-nil (IsCovered plan latency), all)
  parts (region ∷ regions) others all =
      let rest = parts regions others (All-tail (IsCovered plan latency) region (regions ++ others) all) in
      (All-cons (IsCovered plan latency) region regions (All-head (IsCovered plan latency) region (regions ++ others) all) rest.0, rest.1)

  -- right trees over a list of regions cover each of them
  pub trees_cover : (regions : List Region) (nodes : List Node) → All (IsRegion plan) regions → AreTrees (regions_below plan) (IsRight plan latency) regions nodes → All (IsCovered plan latency) regions
  trees_cover [] nodes are_regions trees = All-nil (IsCovered plan latency)
  trees_cover (region ∷ regions) [] are_regions trees = absurd trees
  trees_cover (region ∷ regions) (node ∷ nodes) are_regions trees =
      let is_region = All-head (IsRegion plan) region regions are_regions in
      let below = regions_below plan node region in
      let open_regions = All-append (IsRegion plan) below regions (below_are_regions plan latency grounds.halves node region is_region trees.0) (All-tail (IsRegion plan) region regions are_regions) in
      let covered = parts below regions (trees_cover (below ++ regions) nodes open_regions trees.1) in
      All-cons (IsCovered plan latency) region regions (node_covers node region is_region trees.0 covered.0) covered.1
