-- The scenario in which the issue of a message is known: it is well formed where there is room for it, and a run in which messages follow their causes is one of it, all its events so many ticks later.
use Rattle.std.proofs.Common.{◌≡◌, ℕ, ◌+◌, ◌<◌, ◌==◌, ◌&&◌, Bool, true, false, List, length, get_or, refl, sym, ap, subst, ◌∙◌, arith}
use Rattle.std.specs.List.{list_any}
use Rattle.std.proofs.lemmas.Bool.{and_from, and_parts}
use Rattle.std.proofs.lemmas.List.Elements.{Contains-get_or}
use Rattle.convoy_scenario.specs.Room.{HasRoom}
use Rattle.convoy_scenario.specs.Scenario.{Scenario, GoesTo, message_at}
use Rattle.convoy_scenario.specs.Targets.{may_be_target, with_target}
use Rattle.convoy_scenario.specs.WellFormed.{IsScenario}
use Rattle.convoy_scenario.specs.Widened.{widened}
use Rattle.convoy_scenario.specs.WidenedLaws.{RoomIsDecided, WidenedIsScenario}
use Rattle.convoy_scenario.proofs.OtherTargets.{with_target_formed}
use Rattle.convoy_scenario.proofs.RoomLemmas.{room_told}
use Rattle.convoy_packets.specs.Packets.{packets_of}
use Rattle.convoy_packets.specs.Assignment.{Schedule, IsAssignment, delay_of}
use Rattle.convoy_sim.proofs.Membership.{in_of_contains}
use Rattle.convoy_sim.proofs.Addressed.{goes_from_in}
use Rattle.convoy_sim.proofs.ScenarioMoments.{multicast_at, traffic_of}
use Rattle.convoy_origin.specs.Later.{AreAlike, IssuesLater, RunsLater, RunsShift}
use Rattle.convoy_origin.specs.Widened.{AssignmentsWiden, widened_schedule}
use Rattle.convoy_origin.proofs.WidenedParts.{is_widened}
use Rattle.convoy_origin.proofs.WidenedRuns.{issues_later, left}
use Rattle.convoy_causes.specs.declared.cause.Cause.{Cause}
use Rattle.convoy_causes.specs.declared.event.Event.{Event}
use Rattle.convoy_causes.specs.declared.event.Event.TheVariants.{Issue, Arrival, Commit, Delivery}
use Rattle.convoy_causes.specs.Causes.{AreCauses, IsCause, IsCaused, IsCausedReached, IsFollowing, event_tick, time_from}
use Rattle.convoy_causes.specs.CauseWindows.{has_room_from, scenario_from}
use Rattle.convoy_causes.specs.CauseLaws.{CausedRunsMove, KnownIsScenario, TargetsHaveRoom}
use Rattle.convoy_causes.proofs.Delivered.{assigned}

-- a message goes somewhere
goes_somewhere : (plan : Scenario) → IsScenario plan → (m : ℕ) → m < length plan.multicasts → (g : ℕ) × GoesTo plan m g
goes_somewhere plan well m known =
    let there = (message_at plan m).destinations in
    let some : 0 < length there = (multicast_at plan (traffic_of plan well) m known).destinations in
    (get_or there 0 0, goes_from_in plan m (get_or there 0 0) (in_of_contains (get_or there 0 0) there (Contains-get_or there 0 0 some)))

module _ (by : ℕ) (plan : Scenario) (schedule : Schedule) (other : Scenario) (late : Schedule) (issued : IssuesLater by plan schedule other late)
    (is : RunsLater by plan schedule other late) (well : IsScenario plan) where
  event_later : (event : Event) (x g : ℕ) → GoesTo plan x g → event_tick other late event x g ≡ event_tick plan schedule event x g + by
  event_later Issue x g goes = issued.issues x g goes
  event_later Arrival x g goes = is.arrivals x g goes
  event_later Commit x g goes = is.commits x g goes
  event_later Delivery x g goes = is.deliveries x g goes

  follows_later : (cause : Cause) → IsCause plan cause → IsFollowing plan schedule cause → IsFollowing other late cause
  follows_later cause is_cause follows =
      let event = event_later cause.event cause.message cause.group is_cause.addressed in
      let somewhere = goes_somewhere plan well cause.effect is_cause.effect in
      let effect = issued.issues cause.effect somewhere.0 somewhere.1 in
      let soonest = follows.soonest in
      let latest = follows.latest in
      record { soonest = omega arith; latest = omega arith }

-- ---- the scenario in which the issue of message x is known is the widened one of that with x as its target, whichever the group
module _ (plan : Scenario) (x h : ℕ) where
  abbrev asked : Scenario
  asked = with_target plan x h

  abbrev back : Scenario
  back = with_target (widened asked) plan.target_message plan.target_group

  back_known : back ≡ scenario_from plan x
  unfolding widened
  back_known = refl

  room_back : HasRoom (with_target (widened (with_target plan x plan.target_group)) plan.target_message 0) → HasRoom back
  unfolding widened
  room_back room = record { last = room.last; others = room.others }

  back_formed : WidenedIsScenario → IsScenario plan → x < length plan.multicasts → GoesTo plan x h → has_room_from plan x ≡ true → IsScenario back
  back_formed well_too well l goes room =
      let rooms = and_parts (may_be_target plan x) (may_be_target (widened (with_target plan x plan.target_group)) plan.target_message) room in
      let first = room_told (with_target plan x 0) rooms.0 in
      let wide = well_too asked (with_target_formed plan x h well l goes (record { last = first.last; others = first.others })) in
      let alike = (is_widened asked).alike in
      let count = alike.count in
      let target = well.target in
      with_target_formed (widened asked) plan.target_message plan.target_group wide (omega arith)
      (subst (λ groups. list_any (λ k. k == plan.target_group) groups ≡ true) (sym (alike.destinations plan.target_message)) well.addressed)
      (room_back (room_told (with_target (widened (with_target plan x plan.target_group)) plan.target_message 0) rooms.1))

  -- what the program makes of it
  pub known_told : (given moved : Scenario) → given ≡ asked → moved ≡ widened given → with_target moved plan.target_message plan.target_group ≡ scenario_from plan x
  known_told given moved is widens =
      ap (λ (s : Scenario). with_target s plan.target_message plan.target_group) (widens ∙ ap widened is) ∙ back_known

  same_room : may_be_target (widened asked) plan.target_message ≡ may_be_target (widened (with_target plan x plan.target_group)) plan.target_message
  unfolding widened
  same_room = refl

  pub room_told_of : (given moved : Scenario) → given ≡ asked → moved ≡ widened given → (t : ℕ) → t ≡ plan.target_message → (may : Bool) → may_be_target moved t ≡ may
      → may_be_target (widened (with_target plan x plan.target_group)) plan.target_message ≡ may
  room_told_of given moved is widens t same may told =
      sym same_room ∙ ap (λ (s : Scenario). may_be_target s plan.target_message) (sym (widens ∙ ap widened is)) ∙ ap (may_be_target moved) (sym same) ∙ told

  pub count_told : (given moved : Scenario) → given ≡ asked → moved ≡ widened given → length moved.multicasts ≡ length plan.multicasts
  count_told given moved is widens =
      ap (λ (s : Scenario). length s.multicasts) (widens ∙ ap widened is) ∙ (is_widened asked).alike.count

  pub addressed_told : (given moved : Scenario) → given ≡ asked → moved ≡ widened given → (m g : ℕ) → GoesTo plan m g → GoesTo moved m g
  addressed_told given moved is widens m g goes =
      subst (λ (s : Scenario). GoesTo s m g) (sym (widens ∙ ap widened is))
      (subst (λ groups. list_any (λ k. k == g) groups ≡ true) (sym ((is_widened asked).alike.destinations m)) goes)

  -- ---- a run is one of it, later
  module _ (schedule : Schedule) (given : IsAssignment plan schedule) where
    abbrev given_asked : IsAssignment asked schedule
    given_asked = assigned plan x h schedule given

    abbrev by : ℕ
    by = left asked schedule given_asked

    abbrev late : Schedule
    late = widened_schedule asked schedule

    later_asked : IssuesLater by asked schedule (widened asked) late
    later_asked = issues_later asked schedule given_asked

    later_back : IssuesLater by plan schedule back late
    unfolding packets_of delay_of
    later_back =
        let is = later_asked in
        record {
          alike = record { time = is.alike.time; groups = is.alike.groups; count = is.alike.count; destinations = is.alike.destinations };
          issues = is.issues;
          delays = is.delays;
          order = is.order;
        }

    given_back : AssignmentsWiden → GoesTo plan x h → IsAssignment back late
    given_back widen goes = assigned (widened asked) plan.target_message plan.target_group late (widen asked schedule goes given_asked).0

    caused_back : RunsShift → AssignmentsWiden → IsScenario plan → x < length plan.multicasts → GoesTo plan x h
        → (causes : List Cause) → AreCauses plan causes → IsCaused plan causes schedule → IsCausedReached back causes x (time_from plan x schedule)
    caused_back shift widen well l goes causes are is =
        let run = shift by plan schedule back late later_back in
        let issued = later_back.issues x h goes in
        let delivered = run.deliveries plan.target_message plan.target_group well.addressed in (
          late,
          record {
            assignment = given_back widen goes;
            following = λ k d n. follows_later by plan schedule back late later_back run well (get_or causes k d) (are k d n) (is.following k d n);
          },
          omega arith,
        )

pub known_is_scenario : WidenedIsScenario → KnownIsScenario
known_is_scenario well_too plan x well l room =
    let somewhere = goes_somewhere plan well x l in
    subst IsScenario (back_known plan x somewhere.0) (back_formed plan x somewhere.0 well_too well l somewhere.1 room)

pub caused_moves : RunsShift → AssignmentsWiden → CausedRunsMove
caused_moves shift widen plan causes x schedule well are l is =
    let somewhere = goes_somewhere plan well x l in
    subst (λ (s : Scenario). IsCausedReached s causes x (time_from plan x schedule)) (back_known plan x somewhere.0)
    (caused_back plan x somewhere.0 schedule is.assignment shift widen well l somewhere.1 causes are is)

-- there is none where the second test fails
pub none_behind : (first second : Bool) → second ≡ false → false ≡ (first && second)
none_behind true second none = sym none
none_behind false second none = refl

-- ---- there is room to know the issue of the target
target_known : (plan : Scenario) → HasRoom (widened plan) → HasRoom (with_target (widened (with_target plan plan.target_message plan.target_group)) plan.target_message 0)
unfolding widened
target_known plan room = record { last = room.last; others = room.others }

pub targets_have_room : WidenedIsScenario → RoomIsDecided → TargetsHaveRoom
targets_have_room well_too decided plan well =
    let here = well.room in
    let there = (well_too plan well).room in
    and_from (may_be_target plan plan.target_message) (may_be_target (widened (with_target plan plan.target_message plan.target_group)) plan.target_message)
    ((decided (with_target plan plan.target_message 0)).1 (record { last = here.last; others = here.others }))
    ((decided (with_target (widened (with_target plan plan.target_message plan.target_group)) plan.target_message 0)).1 (target_known plan there))

-- ---- causes of a scenario are causes of that one
-- causes of a scenario are causes of one that is alike
alike_cause : (plan other : Scenario) → AreAlike plan other → (cause : Cause) → IsCause plan cause → IsCause other cause
alike_cause plan other alike cause is = record {
  effect = let count = alike.count in let known = is.effect in omega arith;
  message = let count = alike.count in let known = is.message in omega arith;
  addressed = subst (λ groups. list_any (λ h. h == cause.group) groups ≡ true) (sym (alike.destinations cause.message)) is.addressed;
}

alike_from : (plan : Scenario) (x : ℕ) → AreAlike plan (scenario_from plan x)
alike_from plan x =
    let is = (is_widened (with_target plan x plan.target_group)).alike in
    record { time = is.time; groups = is.groups; count = is.count; destinations = is.destinations }

pub causes_from : (plan : Scenario) (causes : List Cause) (x : ℕ) → AreCauses plan causes → AreCauses (scenario_from plan x) causes
causes_from plan causes x are k d l = alike_cause plan (scenario_from plan x) (alike_from plan x) (get_or causes k d) (are k d l)

pub count_from : (plan : Scenario) (x : ℕ) → length (scenario_from plan x).multicasts ≡ length plan.multicasts
count_from plan x = (alike_from plan x).count
