-- What becomes of a region that stays open.
use Rattle.std.specs.Prelude.{◌≡◌, ℕ, ◌≤◌, ◌<◌, ◌^◌, nat_lt, true, false, ◌&&◌, not, IsTrue, List, [], ◌∷◌, length}
use Rattle.std.proofs.Common.{arith, sym, ap, ap₂, subst, ◌∙◌}
use Rattle.std.proofs.lemmas.Bool.{and_from, and_parts, false≢true}
use Rattle.std.proofs.lemmas.Bool.Decides.{nat_tests}
use Rattle.convoy_draft.specs.declared.time.Time.{Time}
use Rattle.convoy_draft.specs.declared.time.Time.TheVariants.{Ticks, Real}
use Rattle.convoy_scenario.specs.Scenario.{Scenario}
use Rattle.convoy_packets.specs.Assignment.{Schedule}
use Rattle.convoy_sim.specs.Delivery.{latency_of}
use Rattle.convoy_certificate.specs.declared.node.Node.TheVariants.{Split, Order}
use Rattle.convoy_intervals.specs.Boxes.{CanSplit, IsPoint}
use Rattle.convoy_intervals.specs.BoxLaws.{TestsDecide, UpperKeepsGreatest}
use Rattle.convoy_regions.specs.Branches as regions
use Rattle.convoy_regions.specs.Branches.{branch_of}
use Rattle.convoy_regions.specs.RegionLaws.{StagesAreFew}
use Rattle.convoy_regions.specs.Regions.{Region, can_order, first_half, has_open_tie, is_decided, is_decided_in, is_open_tie, lower_half, may_come_either_way, order_by, run_of, second_half, upper_half}
use Rattle.convoy_regions.specs.Stages.{stage_at, stages_of}
use Rattle.convoy_branch.specs.declared.bounds.Bounds.{Bounds}
use Rattle.convoy_branch.specs.Steps.{AreHalves, StaysOpen}

-- ---- Halves by a delay

-- the upper half has the run of the region
upper_keeps_run : (plan : Scenario) (region : Region) (packet at : ℕ) → UpperKeepsGreatest → run_of plan (upper_half region packet at) ≡ run_of plan region
upper_keeps_run plan region packet at keeps =
    let run : List ℕ → Schedule = λ delays. record { delays = delays; order = order_by plan.time plan region.before } in
    ap run (ap (λ (s : Schedule). s.delays) (keeps region.ranges packet at))

pub AreHalves-split : (bounds : Bounds) (plan : Scenario) (region : Region) (known packet at : ℕ) (first second : regions.Branch) → UpperKeepsGreatest → CanSplit region.ranges packet at → first ≡ branch_of plan (lower_half region packet at) → second ≡ branch_of plan (upper_half region packet at) → StaysOpen bounds plan region known → AreHalves bounds plan region known (Split packet at) first second true
AreHalves-split bounds plan region known packet at first second keeps part first_is second_is stays =
    let low : first.region ≡ lower_half region packet at = ap (λ (b : regions.Branch). b.region) first_is in
    let high : second.region ≡ upper_half region packet at = ap (λ (b : regions.Branch). b.region) second_is in
    let same : run_of plan second.region ≡ run_of plan region = ap (λ (r : Region). run_of plan r) high ∙ upper_keeps_run plan region packet at keeps in
    record {
      stays = stays;
      part = part;
      halves = ap₂ (λ (a b : Region). a ∷ b ∷ []) (sym low) (sym high);
      first_of = ap (λ (b : regions.Branch). b.scenario) first_is;
      second_of = ap (λ (b : regions.Branch). b.scenario) second_is;
      is_tried = λ told. subst (λ (s : Schedule). latency_of plan s ≤ known) (sym same) stays.tried;
    }

-- ---- Halves by the order of two stages

-- their numbers ascend, and have eight bits
pub record AreNumbers (first second : ℕ) : Type 0 where
  pub ascend : first < second
  pub few : second < 2 ^ 8

pub numbers_of : (plan : Scenario) (region : Region) (first second : ℕ) → StagesAreFew → IsTrue (can_order plan region first second) → AreNumbers first second
numbers_of plan region first second few can =
    let within = nat_lt second (length (stages_of plan)) in
    let parts = and_parts (nat_lt first second && within) (may_come_either_way region.before (stage_at plan first) (stage_at plan second)) can in
    let numbers = and_parts (nat_lt first second) within parts.0 in
    let below : second < length (stages_of plan) = grind (arith, nat_tests, numbers.1) in
    record { ascend = grind (arith, nat_tests, numbers.0); few = omega (arith, below, few plan) }

pub AreHalves-ordered : (bounds : Bounds) (plan : Scenario) (region : Region) (known first second : ℕ) (earlier later : regions.Branch) → plan.time ≡ Real → AreNumbers first second → IsTrue (can_order plan region first second) → earlier ≡ branch_of plan (first_half plan region first second) → later ≡ branch_of plan (second_half plan region first second) → StaysOpen bounds plan region known → AreHalves bounds plan region known (Order first second) earlier later false
AreHalves-ordered bounds plan region known first second earlier later real numbers can earlier_is later_is stays =
    let one : earlier.region ≡ first_half plan region first second = ap (λ (b : regions.Branch). b.region) earlier_is in
    let other : later.region ≡ second_half plan region first second = ap (λ (b : regions.Branch). b.region) later_is in
    record {
      stays = stays;
      part = ((real, numbers.ascend, omega (arith, numbers.few)), can);
      halves = ap₂ (λ (a b : Region). a ∷ b ∷ []) (sym one) (sym other);
      first_of = ap (λ (b : regions.Branch). b.scenario) earlier_is;
      second_of = ap (λ (b : regions.Branch). b.scenario) later_is;
      is_tried = λ told. absurd (false≢true told);
    }

-- ---- Points

pub decided_in_ticks : (plan : Scenario) (region : Region) → TestsDecide → plan.time ≡ Ticks → IsPoint region.ranges → IsTrue (is_decided plan region)
decided_in_ticks plan region tests ticks point =
    and_from _ _ ((tests region.ranges 0 0).1.1 point) (ap (λ (t : Time). is_decided_in t plan region) ticks)

pub decided_without_ties : (plan scenario : Scenario) (region : Region) → TestsDecide → scenario ≡ plan → plan.time ≡ Real → has_open_tie scenario region ≡ false → IsPoint region.ranges → IsTrue (is_decided plan region)
decided_without_ties plan scenario region tests same real none point =
    let here = subst (λ (s : Scenario). has_open_tie s region ≡ false) same none in
    and_from _ _ ((tests region.ranges 0 0).1.1 point) (ap (λ (t : Time). is_decided_in t plan region) real ∙ ap not here)

-- an open tie may split its region
pub can_order_tie : (plan : Scenario) (region : Region) (first second : ℕ) → is_open_tie plan region first second ≡ true → IsTrue (can_order plan region first second)
can_order_tie plan region first second tie = (and_parts (can_order plan region first second) _ tie).0
