-- A split of a region may stand in a certificate.
use Rattle.std.specs.Prelude.{◌≡◌, ℕ, ◌<◌, ◌≤◌, Bool, true, false, [], length}
use Rattle.std.specs.List.{All}
use Rattle.std.proofs.Common.{refl, arith, get_or}
use Rattle.std.proofs.lemmas.List.Elements.{All-nil, All-cons, All-get_or, AllZip-get_or, length_all_zip}
use Rattle.convoy_draft.specs.declared.limits.TheConstants.{GREATEST_WHOLE_DELAY}
use Rattle.convoy_scenario.specs.Scenario.{Scenario, is_timed}
use Rattle.convoy_packets.specs.Assignment.{ranges_of}
use Rattle.convoy_packets.specs.Table.{IsRange, IsTable, table_of}
use Rattle.convoy_certificate.specs.Certificate.{IsNode, IsNodeWhere}
use Rattle.convoy_certificate.specs.declared.node.Node.{Node}
use Rattle.convoy_certificate.specs.declared.node.Node.TheVariants.{Split, Order, Bound, Point, Stamp, Lead}
use Rattle.convoy_intervals.specs.Boxes.{Box, CanSplit, IsBox, IsInside}
use Rattle.convoy_regions.specs.Regions.{Region, IsRegion}
use Rattle.convoy_branch.specs.declared.bounds.Bounds.{Bounds}
use Rattle.convoy_branch.specs.declared.step.Turn.{Turn}
use Rattle.convoy_branch.specs.declared.step.Turn.TheVariants.{Closed, Halves}
use Rattle.convoy_branch.specs.Fronts.{front_after, spent_in}
use Rattle.convoy_branch.specs.Steps.{IsSplitOf, IsTurn}

-- the range of a packet that is split, and that of the box within it
module _ (plan : Scenario) (box : Box) (packet at : ℕ) (table : IsTable (table_of plan)) (inside : IsBox plan box) (part : CanSplit box packet at) where
  here : packet < length (ranges_of plan)
  here = let long = length_all_zip IsInside (ranges_of plan) box inside in omega (arith, part.place)

  within : IsInside (get_or (ranges_of plan) packet (0, 0)) (get_or box packet (0, 0))
  within = AllZip-get_or IsInside (ranges_of plan) box packet (0, 0) (0, 0) inside here

  split_where : (timed : Bool) → is_timed plan ≡ timed → IsNodeWhere timed plan.time (Split packet at)
  split_where true e =
      let range : IsRange (get_or (ranges_of plan) packet (0, 0)) = All-get_or IsRange (ranges_of plan) packet (0, 0) here table.ranges in (
        omega (arith, table.one_each, table.few, here),
        omega arith,
        omega (arith, range.high, within.2, part.high),
      )
  split_where false e =
      let whole = table.whole e in
      let low : 1 ≤ (get_or (ranges_of plan) packet (0, 0)).0 = All-get_or (λ (r : ℕ × ℕ). 1 ≤ r.0) (ranges_of plan) packet (0, 0) here whole.low in
      let high : (get_or (ranges_of plan) packet (0, 0)).1 ≤ GREATEST_WHOLE_DELAY = All-get_or (λ (r : ℕ × ℕ). r.1 ≤ GREATEST_WHOLE_DELAY) (ranges_of plan) packet (0, 0) here whole.high in (
        omega (arith, whole.few, here),
        omega (arith, low, within.0, part.low),
        omega (arith, high, within.2, part.high),
      )

pub IsNode-split : (plan : Scenario) (box : Box) (packet at : ℕ) → IsTable (table_of plan) → IsBox plan box → CanSplit box packet at → IsNode plan (Split packet at)
IsNode-split plan box packet at table inside part = split_where plan box packet at table inside part (is_timed plan) refl

-- a node that splits a region may stand in a certificate
pub split_node : (plan : Scenario) (split : Node) (region : Region) → IsTable (table_of plan) → IsRegion plan region → IsSplitOf plan split region → IsNode plan split
split_node plan (Split packet at) region table lawful part = IsNode-split plan region.ranges packet at table lawful.inside part
split_node plan (Order first second) region table lawful part = part.0
split_node plan Bound region table lawful part = absurd part
split_node plan Point region table lawful part = absurd part
split_node plan Stamp region table lawful part = absurd part
split_node plan (Lead latency) region table lawful part = absurd part

-- a leaf that closes a region may stand in a certificate
pub leaf_node : (bounds : Bounds) (plan : Scenario) (known : ℕ) (region : Region) (node : Node) → IsTurn bounds plan region known (Closed node) → IsNode plan node
leaf_node bounds plan known region (Split packet at) turn = absurd turn
leaf_node bounds plan known region (Order first second) turn = absurd turn
leaf_node bounds plan known region Bound turn = tt
leaf_node bounds plan known region Point turn = tt
leaf_node bounds plan known region Stamp turn = turn.stamps.0
leaf_node bounds plan known region (Lead latency) turn = omega (arith, turn.0, turn.1.named)

-- what a step makes of a region may: a leaf, or a split
pub All-turn : (bounds : Bounds) (plan : Scenario) (known : ℕ) (region : Region) (turn : Turn) → IsTable (table_of plan) → IsRegion plan region → IsTurn bounds plan region known turn → All (IsNode plan) (spent_in (front_after turn))
All-turn bounds plan known region (Closed node) table lawful is =
    All-cons (IsNode plan) node [] (leaf_node bounds plan known region node is) (All-nil (IsNode plan))
All-turn bounds plan known region (Halves split first second tried) table lawful is =
    All-cons (IsNode plan) split [] (split_node plan split region table lawful is.part) (All-nil (IsNode plan))
