-- The members of a box: what they are, and what both halves say of them.
use Rattle.std.specs.Prelude.{◌≡◌, ℕ, ◌≤◌, List, [], ◌∷◌}
use Rattle.std.specs.List.{AllZip}
use Rattle.std.proofs.Common.{refl, ap, arith, get_or}
use Rattle.std.proofs.lemmas.List.Elements.{All-nil, All-cons, All-head, All-tail, All-map}
use Rattle.convoy_scenario.specs.Scenario.{Scenario}
use Rattle.convoy_scenario.specs.WellFormed.{IsScenario}
use Rattle.convoy_packets.specs.Packets.{packets_of}
use Rattle.convoy_packets.proofs.Ranges.{range_lawful}
use Rattle.convoy_packets.specs.Assignment.{Schedule, range_of, ranges_of, AreWithin, IsAssignment}
use Rattle.convoy_packets.proofs.Orders.{fixed_is_order}
use Rattle.convoy_packets.specs.Table.{IsTable, PacketTable, table_of, least_of, greatest_delays}
use Rattle.convoy_intervals.specs.Boxes.{AreRanges, IsBox, IsInside, IsIn, IsPoint, root_of, greatest_of}

-- the delays that lie in the ranges of a box lie in the ranges around it
pub AreWithin-outer : (outer ranges : List (ℕ × ℕ)) (delays : List ℕ) → AllZip IsInside outer ranges → AreWithin ranges delays → AreWithin outer delays
AreWithin-outer [] [] [] box member = tt
AreWithin-outer [] [] (d ∷ ds) box member = absurd member
AreWithin-outer [] (r ∷ rs) ds box member = absurd box
AreWithin-outer (o ∷ os) [] ds box member = absurd box
AreWithin-outer (o ∷ os) (r ∷ rs) [] box member = absurd member
AreWithin-outer (o ∷ os) (r ∷ rs) (d ∷ ds) box member =
    ((omega arith, omega arith), AreWithin-outer os rs ds box.1 member.1)

-- each range of a box holds a delay
pub AreRanges-box : (outer ranges : List (ℕ × ℕ)) → AllZip IsInside outer ranges → AreRanges ranges
AreRanges-box [] [] box = All-nil (λ range. range.0 ≤ range.1)
AreRanges-box [] (r ∷ rs) box = absurd box
AreRanges-box (o ∷ os) [] box = absurd box
AreRanges-box (o ∷ os) (r ∷ rs) box =
    let P : ℕ × ℕ → Type 0 = λ range. range.0 ≤ range.1 in
    All-cons P r rs box.0.1 (AreRanges-box os rs box.1)

-- ranges that hold a delay lie in themselves
pub AllZip-itself : (ranges : List (ℕ × ℕ)) → AreRanges ranges → AllZip IsInside ranges ranges
AllZip-itself [] all = tt
AllZip-itself (r ∷ rs) all =
    let P : ℕ × ℕ → Type 0 = λ range. range.0 ≤ range.1 in
    let here : r.0 ≤ r.1 = All-head P r rs all in
    ((omega arith, here, omega arith), AllZip-itself rs (All-tail P r rs all))

-- the greatest delays are a member, and so are the least
pub IsIn-greatest : (ranges : List (ℕ × ℕ)) → AreRanges ranges → IsIn ranges (greatest_of ranges)
IsIn-greatest [] all = tt
IsIn-greatest (r ∷ rs) all =
    let P : ℕ × ℕ → Type 0 = λ range. range.0 ≤ range.1 in
    let here : r.0 ≤ r.1 = All-head P r rs all in
    ((here, omega arith), IsIn-greatest rs (All-tail P r rs all))

pub IsIn-from_greatest : (ranges : List (ℕ × ℕ)) (schedule : Schedule) → AreRanges ranges → schedule ≡ greatest_of ranges → IsIn ranges schedule
IsIn-from_greatest ranges schedule all is = rw is (IsIn-greatest ranges all)

pub IsIn-least : (ranges : List (ℕ × ℕ)) → AreRanges ranges → IsIn ranges (least_of ranges)
IsIn-least [] all = tt
IsIn-least (r ∷ rs) all =
    let P : ℕ × ℕ → Type 0 = λ range. range.0 ≤ range.1 in
    let here : r.0 ≤ r.1 = All-head P r rs all in
    ((omega arith, here), IsIn-least rs (All-tail P r rs all))

-- so the schedule of the greatest delays of a box is an assignment
pub greatest_assigned : (plan : Scenario) (ranges : List (ℕ × ℕ)) → IsBox plan ranges → IsAssignment plan (greatest_of ranges)
greatest_assigned plan ranges box = record {
  delays = AreWithin-outer (ranges_of plan) ranges (greatest_delays ranges) box (IsIn-greatest ranges (AreRanges-box (ranges_of plan) ranges box));
  order = fixed_is_order plan;
}

-- the delays of two members of a point are the same
pub point_members : (ranges : List (ℕ × ℕ)) (a b : List ℕ) → IsPoint ranges → AreWithin ranges a → AreWithin ranges b → a ≡ b
point_members [] [] [] point left right = refl
point_members [] [] (y ∷ b) point left right = absurd right
point_members [] (x ∷ a) b point left right = absurd left
point_members (r ∷ rs) [] b point left right = absurd left
point_members (r ∷ rs) (x ∷ a) [] point left right = absurd right
point_members (r ∷ rs) (x ∷ a) (y ∷ b) point left right =
    let P : ℕ × ℕ → Type 0 = λ range. range.0 ≡ range.1 in
    let single : r.0 ≡ r.1 = All-head P r rs point in
    let same : x ≡ y = omega arith in
    let rest : a ≡ b = point_members rs a b (All-tail P r rs point) left.1 right.1 in
    cc

-- the root of a well-formed scenario is a box
pub AreRanges-root : (plan : Scenario) → IsScenario plan → AreRanges (root_of plan)
unfolding ranges_of
AreRanges-root plan lawful =
    let P : ℕ × ℕ → Type 0 = λ range. range.0 ≤ range.1 in
    All-map P (range_of plan) (packets_of plan) (λ k d below. (range_lawful plan (get_or (packets_of plan) k d) lawful).ordered)

pub IsBox-root : (plan : Scenario) → IsScenario plan → IsBox plan (root_of plan)
IsBox-root plan lawful = AllZip-itself (ranges_of plan) (AreRanges-root plan lawful)

-- the ranges of the scenario's table are a box
pub IsBox-table : (plan : Scenario) (table : PacketTable) (ranges : List (ℕ × ℕ)) → table ≡ table_of plan → IsTable table → ranges ≡ table.ranges → IsBox plan ranges
IsBox-table plan table ranges of_scenario lawful is =
    let all : AreRanges table.ranges = λ k d below. (lawful.ranges k d below).ordered in
    let same : table.ranges ≡ ranges_of plan = ap (λ (t : PacketTable). t.ranges) of_scenario in
    rw (is, ← same) (AllZip-itself table.ranges all)
