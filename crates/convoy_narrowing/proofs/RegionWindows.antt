-- The windows of a region enclose its members.
use Rattle.std.proofs.Common.{◌≡◌, ℕ, ◌+◌, ◌≤◌, min, Bool, true, false, ◌||◌, ap, ◌∙◌, IsTrue, List, [], ◌∷◌, length, inl, inr, refl, arith}
use Rattle.std.specs.List.{All}
use Rattle.std.proofs.lemmas.Bool.{or_cases}
use Rattle.std.proofs.lemmas.List.Elements.{All-head, All-tail}
use Rattle.convoy_draft.specs.declared.limits.TheConstants.{GREATEST_UNTIL}
use Rattle.convoy_scenario.specs.Scenario.{Scenario, GoesTo}
use Rattle.convoy_scenario.specs.WellFormed.{IsScenario}
use Rattle.convoy_packets.specs.Assignment.{Schedule}
use Rattle.convoy_sim.specs.declared.moment.MomentKind.{MomentKind}
use Rattle.convoy_sim.specs.declared.moment.MomentKind.TheVariants.{Arrival, Commit}
use Rattle.convoy_sim.proofs.MomentTicks.{tick_of_before}
use Rattle.convoy_sure.specs.Windows.{EnclosesAll, Windows, tables_by, windows_of}
use Rattle.convoy_sure.specs.SureLaws.{CutsByArrivalEnclose, CutsByCommitEnclose, CutsEnclose, CutsForCommitEnclose, WindowsEncloseMembers}
use Rattle.convoy_leads.specs.Closing.{closes_by_leads, closes_over}
use Rattle.convoy_leads.specs.LeadLaws.{ClosedHoldsOverWindows, LeadsHold}
use Rattle.convoy_intervals.specs.Boxes.{Box}
use Rattle.convoy_regions.specs.Stages.{AreKept, IsPrecedence, Precedence, comes_before, moment_by, moment_of}
use Rattle.convoy_regions.specs.Regions.{Region}
use Rattle.convoy_narrowing.specs.Narrowing.{closes_narrowed, closes_region, narrowed, greatest_by, greatest_tick, least_by, least_tick, narrowed_by, narrowed_over, since, since_by, until_by}
use Rattle.convoy_narrowing.specs.NarrowingLaws.{ClosedAsBox, ClosedRegionHolds, NarrowedEncloseMembers}

-- the laws of windows below
pub record Laws : Type 0 where
  pub members : WindowsEncloseMembers
  pub arrival_since : CutsEnclose
  pub arrival_by : CutsByArrivalEnclose
  pub commit_since : CutsForCommitEnclose
  pub commit_by : CutsByCommitEnclose

module _ (laws : Laws) (scenario : Scenario) (schedule : Schedule) (well : IsScenario scenario) where
  abbrev Enclosed : Windows → Type 0
  Enclosed windows = EnclosesAll scenario schedule (tables_by windows)

  -- a stage is in its window
  least_holds : (kind : MomentKind) (windows : Windows) (m g : ℕ) → Enclosed windows → GoesTo scenario m g → least_by kind windows m g ≤ (moment_by kind scenario schedule m g).tick
  least_holds Arrival windows m g enclosed goes = enclosed.times.arrival_low m g goes
  least_holds Commit windows m g enclosed goes = enclosed.times.settling_low m g goes

  greatest_holds : (kind : MomentKind) (windows : Windows) (m g : ℕ) → Enclosed windows → GoesTo scenario m g → (moment_by kind scenario schedule m g).tick ≤ greatest_by kind windows m g
  greatest_holds Arrival windows m g enclosed goes = enclosed.times.arrival_high m g goes
  greatest_holds Commit windows m g enclosed goes = enclosed.times.settling_high m g goes

  -- windows that are cut for a tick by which, or from which on, the stage is still enclose the schedule
  since_holds : (kind : MomentKind) (windows : Windows) (m g tick : ℕ) → Enclosed windows → GoesTo scenario m g → tick ≤ (moment_by kind scenario schedule m g).tick
      → Enclosed (since_by kind scenario windows m g tick)
  since_holds Arrival windows m g tick enclosed goes late = laws.arrival_since scenario schedule windows m g (min (GREATEST_UNTIL + 65535) tick) well enclosed goes (omega (arith, late))
  since_holds Commit windows m g tick enclosed goes late = laws.commit_since scenario schedule windows m g tick well enclosed goes late

  until_holds : (kind : MomentKind) (windows : Windows) (m g tick : ℕ) → Enclosed windows → GoesTo scenario m g → (moment_by kind scenario schedule m g).tick ≤ tick
      → Enclosed (until_by kind scenario windows m g tick)
  until_holds Arrival windows m g tick enclosed goes soon = laws.arrival_by scenario schedule windows m g tick well enclosed goes soon
  until_holds Commit windows m g tick enclosed goes soon = laws.commit_by scenario schedule windows m g tick well enclosed goes soon

  -- a precedence that is kept narrows windows to such as still enclose the schedule
  pair_holds : (windows : Windows) (pair : Precedence) → IsPrecedence scenario pair → comes_before scenario schedule pair.0 pair.1 ≡ true → Enclosed windows
      → Enclosed (narrowed_by scenario windows pair)
  pair_holds windows pair known kept enclosed =
      let a = pair.0 in
      let b = pair.1 in
      let order : (moment_of scenario schedule a).tick ≤ (moment_of scenario schedule b).tick = tick_of_before (moment_of scenario schedule a) (moment_of scenario schedule b) kept in
      let low : least_tick windows a ≤ (moment_of scenario schedule a).tick = least_holds a.kind windows a.message a.group enclosed known.first.goes in
      let later : Windows = since scenario windows b (least_tick windows a) in
      let enclosed_later : Enclosed later = since_holds b.kind windows b.message b.group (least_tick windows a) enclosed known.second.goes (omega arith) in
      let high : (moment_of scenario schedule b).tick ≤ greatest_tick later b = greatest_holds b.kind later b.message b.group enclosed_later known.second.goes in
      until_holds a.kind later a.message a.group (greatest_tick later b) enclosed_later known.first.goes (omega arith)

  over_holds : (before : List Precedence) (windows : Windows) → All (IsPrecedence scenario) before → AreKept scenario schedule before → Enclosed windows
      → Enclosed (narrowed_over scenario windows before)
  over_holds [] windows known kept enclosed = enclosed
  over_holds (pair ∷ before) windows known kept enclosed =
      let IsKept : Precedence → Type 0 = λ one. IsTrue (comes_before scenario schedule one.0 one.1) in
      over_holds before (narrowed_by scenario windows pair) (All-tail (IsPrecedence scenario) pair before known) (All-tail IsKept pair before kept)
      (pair_holds windows pair (All-head (IsPrecedence scenario) pair before known) (All-head IsKept pair before kept) enclosed)

pub narrowed_enclose_members : Laws → NarrowedEncloseMembers
narrowed_enclose_members laws scenario region schedule well lawful member =
    let of_box : EnclosesAll scenario schedule (tables_by (windows_of scenario region.ranges)) = laws.members scenario region.ranges schedule well member.0 in
    let once = over_holds laws scenario schedule well region.before (windows_of scenario region.ranges) lawful.within member.1 of_box in
    over_holds laws scenario schedule well region.before (narrowed_over scenario (windows_of scenario region.ranges) region.before) lawful.within member.1 once

pub closed_region_holds : NarrowedEncloseMembers → ClosedHoldsOverWindows → LeadsHold → ClosedRegionHolds
unfolding closes_region
closed_region_holds enclose holds of_box scenario region schedule latency well lawful member assigned closed =
    elim (or_cases (closes_by_leads scenario region.ranges latency) (closes_narrowed scenario region latency) closed) [
      | inl box ↦ of_box scenario region.ranges schedule latency well assigned member.0 box
      | inr own ↦ holds scenario schedule (narrowed scenario region) latency well assigned (enclose scenario region schedule well lawful member) own
    ]

either : (b : Bool) → (b || b) ≡ b
either true = refl
either false = refl

pub closed_as_box : ClosedAsBox
unfolding closes_region closes_by_leads
closed_as_box scenario ranges latency = either (closes_over scenario (windows_of scenario ranges) latency)

-- where leads close the box, they close each region of it
pub closed_by_box : (scenario : Scenario) (region : Region) (latency : ℕ) → closes_by_leads scenario region.ranges latency ≡ true → closes_region scenario region latency ≡ true
unfolding closes_region
closed_by_box scenario region latency is = ap (λ (b : Bool). b || closes_narrowed scenario region latency) is

-- where they do not, they close it just where they close its own windows
pub closed_by_own : (scenario : Scenario) (region : Region) (latency : ℕ) → closes_by_leads scenario region.ranges latency ≡ false → closes_region scenario region latency ≡ closes_narrowed scenario region latency
unfolding closes_region
closed_by_own scenario region latency is = ap (λ (b : Bool). b || closes_narrowed scenario region latency) is

none_of : (before : List Precedence) → length before ≡ 0 → before ≡ []
none_of [] few = refl
none_of (pair ∷ before) few = absurd (omega (arith, few))

pub open_as_box : (scenario : Scenario) (ranges : Box) (before : List Precedence) (latency : ℕ) → length before ≡ 0 → closes_by_leads scenario ranges latency ≡ false
    → closes_region scenario (record { ranges = ranges; before = before }) latency ≡ false
open_as_box scenario ranges before latency none is =
    ap (λ (list : List Precedence). closes_region scenario (record { ranges = ranges; before = list }) latency) (none_of before none) ∙ closed_as_box scenario ranges latency ∙ is
