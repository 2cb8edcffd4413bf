-- All members of a decided region have the latency of its run.
use Rattle.std.proofs.Common.{◌≡◌, ℕ, ◌<◌, true, false, ◌==◌, inl, inr, List, [], ◌∷◌, length, map, All, refl, sym, ap, ap₂, subst, ◌∙◌, arith}
use Rattle.std.specs.List.{list_any}
use Rattle.std.proofs.lemmas.Bool.{and_parts, cases_lt, eqb-true, false≢true, not-true, or_cases}
use Rattle.std.proofs.lemmas.List.{get_or_past}
use Rattle.std.proofs.lemmas.List.Elements.{All-head, All-tail}
use Rattle.convoy_draft.specs.declared.time.Time.{Time}
use Rattle.convoy_draft.specs.declared.time.Time.TheVariants.{Ticks, Real}
use Rattle.convoy_scenario.specs.Scenario.{GoesTo, Scenario, is_addressed, message_at, no_message}
use Rattle.convoy_scenario.specs.WellFormed.{IsScenario}
use Rattle.convoy_packets.specs.Assignment.{Schedule}
use Rattle.convoy_packets.specs.Order.{IsOrder}
use Rattle.convoy_packets.specs.OrderLists.{order_of}
use Rattle.convoy_packets.specs.ScheduleLaws.{DelaysAreWithin}
use Rattle.convoy_sim.specs.declared.moment.MomentKind.{MomentKind}
use Rattle.convoy_sim.specs.declared.moment.MomentKind.TheVariants.{Arrival, Commit}
use Rattle.convoy_sim.specs.Delivery.{latency_of}
use Rattle.convoy_sim.specs.ProtocolLaws.{DeliveryLaw}
use Rattle.convoy_intervals.specs.Boxes.{is_point}
use Rattle.convoy_intervals.specs.BoxLaws.{PointHasOneMember, TestsDecide}
use Rattle.convoy_regions.specs.declared.stage.Stage.{Stage}
use Rattle.convoy_regions.specs.Stages.{AreKept, Precedence, moment_by, moment_of, stages_of}
use Rattle.convoy_regions.specs.Regions.{IsMember, IsRegion, Region, has_open_tie, is_decided_in, order_by, rank_by, run_of}
use Rattle.convoy_regions.specs.RegionLaws.{DecidedHasOneLatency, KnownHolds, RunIsAssignment}
use Rattle.convoy_regions.proofs.SameStamps.{StampLaws, same_final, same_local}
use Rattle.convoy_regions.proofs.SameLatency.{same_arrive, same_latency, same_settle}
use Rattle.convoy_regions.proofs.RunKeeps.{run_keeps}
use Rattle.convoy_regions.proofs.DecidedOrders.{AreDecided, are_decided, keeps_order}

-- the laws on which this stands
pub record DecidedLaws : Type 0 where
  pub stamps : StampLaws
  pub delivery : DeliveryLaw
  pub within : DelaysAreWithin
  pub tests : TestsDecide
  pub point : PointHasOneMember
  pub known : KnownHolds
  pub run : RunIsAssignment

-- ---- messages and groups are few
message_below : (plan : Scenario) (m g : ℕ) → GoesTo plan m g → m < length plan.multicasts
message_below plan m g goes = elim (cases_lt m (length plan.multicasts)) [
  | inl l ↦ l
  | inr l ↦ absurd (false≢true (subst (λ message. is_addressed message g ≡ true) (get_or_past plan.multicasts m no_message l) goes))
]

known_to : (g most : ℕ) (groups : List ℕ) → All (λ h. h < most) groups → list_any (λ h. h == g) groups ≡ true → g < most
known_to g most [] all is = absurd (false≢true is)
known_to g most (h ∷ groups) all is = elim (or_cases (h == g) (list_any (λ k. k == g) groups) is) [
  | inl e ↦ subst (λ k. k < most) (eqb-true h g e) (All-head (λ k. k < most) h groups all)
  | inr e ↦ known_to g most groups (All-tail (λ k. k < most) h groups all) e
]

few : (plan : Scenario) → IsScenario plan → (m g : ℕ) → GoesTo plan m g → (m < 16) × (g < 8)
few plan well m g goes =
    let below = message_below plan m g goes in
    let most = well.multicasts_high in
    let groups = well.groups_high in
    let known = known_to g (length plan.groups) (message_at plan m).destinations (well.messages m no_message below).known goes in
    (omega arith, omega arith)

-- ---- the same delays
same_tick : (kind : MomentKind) (plan : Scenario) (s r : Schedule) → s.delays ≡ r.delays → (m g : ℕ) → (moment_by kind plan s m g).tick ≡ (moment_by kind plan r m g).tick
same_tick Arrival plan s r same m g = same_arrive plan s r same m g
same_tick Commit plan s r same m g = same_settle plan s r same m g

module _ (laws : DecidedLaws) (plan : Scenario) (region : Region) (schedule : Schedule) (well : IsScenario plan) (is : IsRegion plan region) (member : IsMember plan region schedule) (ordered : IsOrder plan schedule.order) (point : is_point region.ranges ≡ true) where
  same_delays : schedule.delays ≡ (run_of plan region).delays
  same_delays =
      laws.point region.ranges schedule (run_of plan region) ((laws.tests region.ranges 0 0).1.0 point) member.0 (laws.run plan region is).0

  ticks : (a : Stage) → (moment_of plan schedule a).tick ≡ (moment_of plan (run_of plan region) a).tick
  ticks a = same_tick a.kind plan schedule (run_of plan region) same_delays a.message a.group

  -- in whole ticks the run is the only member
  in_ticks : plan.time ≡ Ticks → latency_of plan schedule ≡ latency_of plan (run_of plan region)
  in_ticks whole =
      let order : schedule.order ≡ (run_of plan region).order = ordered.fixed whole ∙ sym (ap (λ t. order_by t plan region.before) whole) in
      let same : schedule ≡ run_of plan region = λ i. record { delays = same_delays i; order = order i } in
      ap (latency_of plan) same

  -- in real time each precedence holds in the run
  keeps : plan.time ≡ Real → AreKept plan (run_of plan region) region.before
  keeps real = by_list region.before refl where
    by_list : (before : List Precedence) → region.before ≡ before → AreKept plan (run_of plan region) region.before
    by_list [] e = subst (AreKept plan (run_of plan region)) (sym e) (λ k d below. absurd (omega arith))
    by_list (pair ∷ before) e =
        run_keeps laws.within laws.known plan region.before schedule (run_of plan region) well real (laws.run plan region is).1
        (ap₂ (λ t b. order_by t plan b) real e ∙ sym (ap (λ b. order_of plan (map (rank_by b) (stages_of plan))) e)) is.within member.1 ticks

  in_real : plan.time ≡ Real → has_open_tie plan region ≡ false → latency_of plan schedule ≡ latency_of plan (run_of plan region)
  in_real real none =
      let r : Schedule = run_of plan region in
      let kept = keeps real in
      let decided = are_decided plan region none in
      let decided_there : AreDecided plan region.before schedule =
      λ x y tied. decided x y (record { first = tied.first; second = tied.second; group = tied.group; apart = tied.apart; arrives = tied.arrives; tick = sym (ticks x) ∙ tied.tick ∙ ticks y }) in
      let there = keeps_order laws.known plan region.before is.within schedule r ticks decided_there member.1 kept (few plan well) in
      let back = keeps_order laws.known plan region.before is.within r schedule (λ a. sym (ticks a)) decided kept member.1 (few plan well) in
      same_latency plan schedule r same_delays laws.delivery well (same_local laws.stamps plan well schedule r there back) (same_final laws.stamps plan well schedule r there back)

  by_time : (time : Time) → plan.time ≡ time → is_decided_in time plan region ≡ true → latency_of plan schedule ≡ latency_of plan (run_of plan region)
  by_time Ticks e decided = in_ticks e
  by_time Real e decided = in_real e (not-true (has_open_tie plan region) decided)

pub one_latency : DecidedLaws → DecidedHasOneLatency
one_latency laws plan region schedule well is decided member ordered =
    let parts = and_parts (is_point region.ranges) (is_decided_in plan.time plan region) decided in
    by_time laws plan region schedule well is member ordered parts.0 plan.time refl parts.1
