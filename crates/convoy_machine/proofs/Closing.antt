-- The leaves that close a box: in one test, and that no member of the box has a greater latency.
use Rattle.std.specs.Prelude.{◌≡◌, ℕ, ◌≤◌, nat_le, Bool, true, false, ◌&&◌, ◌||◌, IsTrue, [], Option, Some, None}
use Rattle.std.specs.Option.{is_none}
use Rattle.std.proofs.Common.{arith, refl, ap, sym, subst, ◌∙◌, inl, inr}
use Rattle.std.proofs.lemmas.Bool.{false≢true, or_cases, le-leb}
use Rattle.std.proofs.lemmas.List.Elements.{All-nil}
use Rattle.convoy_scenario.specs.Scenario.{Scenario}
use Rattle.convoy_scenario.specs.WellFormed.{IsScenario}
use Rattle.convoy_packets.specs.Assignment.{Schedule, ranges_of}
use Rattle.convoy_packets.specs.Order.{IsOrder}
use Rattle.convoy_sim.specs.Delivery.{latency_of}
use Rattle.convoy_intervals.proofs.Members.{AreRanges-box}
use Rattle.convoy_intervals.specs.Boxes.{Box, IsBox, IsIn}
use Rattle.convoy_regions.specs.Stages.{IsPrecedence, Precedence, comes_before}
use Rattle.convoy_regions.specs.Regions.{IsMember, IsRegion, Region, any_order, is_decided, run_of}
use Rattle.convoy_leads.specs.Closing.{closes_by_leads}
use Rattle.convoy_narrowing.proofs.RegionWindows.{closed_as_box}
use Rattle.convoy_origin.specs.FromOrigin.{closes_from_origin, plain_from_origin, stamp_from_origin}
use Rattle.convoy_scenario.specs.Widened.{widened}
use Rattle.convoy_origin.specs.WidenedBoxes.{widened_box}
use Rattle.convoy_origin.specs.WidenedRegions.{RegionsWiden}
use Rattle.convoy_scenario.specs.WidenedLaws.{WidenedIsScenario}
use Rattle.convoy_certificate.specs.declared.node.Node.{Node}
use Rattle.convoy_certificate.specs.declared.node.Node.TheVariants.{Split, Order, Bound, Point, Stamp, Lead}
use Rattle.convoy_checker.specs.declared.refused.Refused.{Refused}
use Rattle.convoy_checker.specs.declared.refused.Refused.TheVariants as refused
use Rattle.convoy_checker.specs.Checks.{fault_unless, in_ticks, node_fault}
use Rattle.convoy_checker.specs.TreeLaws.{BoundLeavesCover, LeadLeavesCover, PointLeavesCover, StampLeavesCover}
use Rattle.convoy_checker.specs.Leaves.{ClosesByLeads, IsRight}
use Rattle.convoy_checker.specs.Trees.{regions_below}
use Rattle.convoy_checker.proofs.Faults.{node_none}
use Rattle.convoy_laws.specs.Monotone.{LeadsCloseForMore}
use Rattle.convoy_machine.specs.MachineLaws.{RightLeavesClose}
use Rattle.convoy_machine.specs.Machine.{closes}

-- the tests of four faults
four_tests : (bound point stamp lead : Bool) (first second third fourth : Refused) → (is_none (fault_unless bound first) || (is_none (fault_unless point second) || (is_none (fault_unless stamp third) || (is_none (fault_unless lead fourth) || false)))) ≡ (bound || (point || (stamp || lead)))
four_tests true point stamp lead first second third fourth = refl
four_tests false true stamp lead first second third fourth = refl
four_tests false false true lead first second third fourth = refl
four_tests false false false true first second third fourth = refl
four_tests false false false false first second third fourth = refl

-- the test of all kinds of leaves, in the order of what they take
pub closes_is : (plan : Scenario) (latency : ℕ) (box : Box) → closes plan latency box ≡ (nat_le (plain_from_origin plan box) latency || ((is_decided plan (any_order box) && nat_le (latency_of plan (run_of plan (any_order box))) latency) || ((in_ticks plan.time && nat_le (stamp_from_origin plan box) latency) || closes_from_origin plan (any_order box) latency)))
closes_is plan latency box =
    let region : Region = any_order box in
    let bound = plain_from_origin plan box in
    let low = nat_le bound latency in
    let point = is_decided plan region && nat_le (latency_of plan (run_of plan region)) latency in
    let stamp = in_ticks plan.time && nat_le (stamp_from_origin plan box) latency in
    let lead = closes_from_origin plan region latency in
    four_tests low point stamp (nat_le latency latency && lead) (refused.BoundLeaf 0 bound) (refused.PointLeaf 0) (refused.StampLeaf 0 (stamp_from_origin plan box)) (refused.LeadLeaf 0)
    ∙ ap (λ (itself : Bool). low || (point || (stamp || (itself && lead)))) (le-leb latency latency (omega arith))

-- what rests on the kinds of leaves: a law for each
pub record LeafGrounds : Type 0 where
  pub bound : BoundLeavesCover
  pub point : PointLeavesCover
  pub stamp : StampLeavesCover
  pub lead : LeadLeavesCover

none_told : (fault : Option Refused) → is_none fault ≡ true → fault ≡ None
none_told None none = refl
none_told (Some fault) none = absurd (false≢true none)

-- a box of a scenario is a region of it, and what is in the box is a member of that
box_is_region : (plan : Scenario) (box : Box) → IsBox plan box → IsRegion plan (any_order box)
box_is_region plan box inside = record { inside = inside; within = All-nil (IsPrecedence plan) }

in_is_member : (plan : Scenario) (box : Box) (schedule : Schedule) → IsIn box schedule → IsMember plan (any_order box) schedule
in_is_member plan box schedule member =
    (member, All-nil (λ (pair : Precedence). IsTrue (comes_before plan schedule pair.0 pair.1)))

-- no member of a box that is closed has a greater latency, whatever the order of its ties
pub closed_covers : (plan : Scenario) (latency : ℕ) (box : Box) (schedule : Schedule) → LeafGrounds → IsScenario plan → IsBox plan box → closes plan latency box ≡ true → IsIn box schedule → IsOrder plan schedule.order → latency_of plan schedule ≤ latency
closed_covers plan latency box schedule grounds lawful inside closed member order =
    let fits : Node → Bool = λ leaf. is_none (node_fault plan latency 0 leaf (any_order box)) in
    let region = any_order box in
    let within = box_is_region plan box inside in
    let is = in_is_member plan box schedule member in
    elim (or_cases (fits Bound) (fits Point || (fits Stamp || (fits (Lead latency) || false))) closed) [
      | inl by_bound ↦ grounds.bound plan latency region schedule lawful within (right Bound by_bound) is order
      | inr others ↦ elim (or_cases (fits Point) (fits Stamp || (fits (Lead latency) || false)) others) [
        | inl as_point ↦ grounds.point plan latency region schedule lawful within (right Point as_point) is order
        | inr further ↦ elim (or_cases (fits Stamp) (fits (Lead latency) || false) further) [
          | inl by_stamps ↦ grounds.stamp plan latency region schedule lawful within (right Stamp by_stamps) is order
          | inr last ↦ elim (or_cases (fits (Lead latency)) false last) [
            | inl by_leads ↦ grounds.lead plan latency region schedule lawful within (right (Lead latency) by_leads).1 is order
            | inr none ↦ absurd (false≢true none)
          ]
        ]
      ]
    ] where
      right : (leaf : Node) → is_none (node_fault plan latency 0 leaf (any_order box)) ≡ true → IsRight plan latency leaf (any_order box)
      right leaf fits = (node_none plan latency 0 leaf (any_order box)).0 (none_told (node_fault plan latency 0 leaf (any_order box)) fits)

-- ---- Which boxes are closed

or_true : (test : Bool) → (test || true) ≡ true
or_true true = refl
or_true false = refl

-- where one of four tests says yes, one of them does
second_of : (first second rest : Bool) → second ≡ true → (first || (second || rest)) ≡ true
second_of first second rest yes' = ap (λ test. first || (test || rest)) yes' ∙ or_true first

third_of : (first second third rest : Bool) → third ≡ true → (first || (second || (third || rest))) ≡ true
third_of first second third rest yes' = ap (λ tests. first || tests) (second_of second third rest yes') ∙ or_true first

fourth_of : (first second third fourth rest : Bool) → fourth ≡ true → (first || (second || (third || (fourth || rest)))) ≡ true
fourth_of first second third fourth rest yes' = ap (λ tests. first || tests) (third_of second third fourth rest yes') ∙ or_true first

-- leads that close a box for a latency close it for each greater one
for_more : LeadsCloseForMore → WidenedIsScenario → RegionsWiden → (plan : Scenario) (box : Box) (latency more : ℕ) → IsScenario plan → IsBox plan box →
    latency ≤ more → ClosesByLeads plan latency (any_order box) → ClosesByLeads plan more (any_order box)
unfolding closes_from_origin
for_more rises scenario regions plan box latency more lawful inside low closed =
    let moved = widened plan in
    let wide = widened_box plan box in
    let ranges = AreRanges-box (ranges_of moved) wide (regions plan (any_order box) (box_is_region plan box inside)).inside in
    let there : IsTrue (closes_by_leads moved wide latency) = subst IsTrue (closed_as_box moved wide latency) closed in
    subst IsTrue (sym (closed_as_box moved wide more)) (rises moved wide latency more (scenario plan lawful) ranges low there)

-- a leaf that is right closes its box, a lead leaf also for what is above the latency that it names
pub right_closes : LeadsCloseForMore → WidenedIsScenario → RegionsWiden → RightLeavesClose
right_closes rises scenario regions plan latency leaf box lawful inside below right = by_leaf leaf below right where
  fits : Node → Bool
  fits leaf = is_none (node_fault plan latency 0 leaf (any_order box))

  fitting : (leaf : Node) → IsRight plan latency leaf (any_order box) → fits leaf ≡ true
  fitting leaf right = ap is_none ((node_none plan latency 0 leaf (any_order box)).1 right)

  by_leaf : (leaf : Node) → regions_below plan leaf (any_order box) ≡ [] → IsRight plan latency leaf (any_order box) → closes plan latency box ≡ true
  by_leaf (Split packet at) below right = absurd cc
  by_leaf (Order first second) below right = absurd cc
  by_leaf Bound below right = ap (λ test. test || (fits Point || (fits Stamp || (fits (Lead latency) || false)))) (fitting Bound right)
  by_leaf Point below right = second_of (fits Bound) (fits Point) (fits Stamp || (fits (Lead latency) || false)) (fitting Point right)
  by_leaf Stamp below right = third_of (fits Bound) (fits Point) (fits Stamp) (fits (Lead latency) || false) (fitting Stamp right)
  by_leaf (Lead named) below right =
      let closed = for_more rises scenario regions plan box named latency lawful inside right.0 right.1 in
      fourth_of (fits Bound) (fits Point) (fits Stamp) (fits (Lead latency)) false (fitting (Lead latency) (omega arith, closed))
