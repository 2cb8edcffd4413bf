-- A schedule as one of the widened scenario: it is an assignment there, and the run is the same but later.
use Rattle.std.proofs.Common.{◌≡◌, ◌≢◌, ℕ, ◌+◌, ◌-◌, ◌<◌, not, true, false, inl, inr, List, length, get_or, nat_lt, Option, Some, None, refl, sym, ap, subst, subst₂, ◌∙◌, arith}
use Rattle.std.proofs.lemmas.Bool.{cases_Bool, cases_eq, ltb-false}
use Rattle.std.proofs.lemmas.List.{get_or-map}
use Rattle.std.proofs.lemmas.Option.{same_Some, slice_get-get_or, slice_get_within}
use Rattle.convoy_scenario.specs.Scenario.{Scenario, GoesTo, message_at, may_wait}
use Rattle.convoy_packets.specs.declared.packet.Packet.{Packet}
use Rattle.convoy_packets.specs.declared.packet.Packet.TheVariants.{Wait, Multicast, Propose}
use Rattle.convoy_packets.specs.Packets.{packets_of, place_of, is_wait}
use Rattle.convoy_packets.specs.Order.{AreRanks, IsOrder}
use Rattle.convoy_packets.specs.Assignment.{Schedule, AreWithin, IsAssignment, IsWithin, delay_of, range_of, ranges_of}
use Rattle.convoy_packets.specs.ScheduleLaws.{is_sent}
use Rattle.convoy_packets.proofs.Places.{stands_where_found}
use Rattle.convoy_packets.proofs.Sent.{found_if_sent}
use Rattle.convoy_packets.proofs.Ranges.{no_time_if_unsent, wait_at_most, within_if_sent}
use Rattle.convoy_sim.specs.Times.{issue}
use Rattle.convoy_sim.specs.Delivery.{latency_at, latency_of}
use Rattle.convoy_sim.proofs.Addressed.{number_of_goes}
use Rattle.convoy_origin.proofs.Lists.{all_zip_made}
use Rattle.convoy_origin.proofs.PacketDelays.{delay_at_place, sent_of_in, unsent_if_nowhere}
use Rattle.convoy_origin.specs.Later.{IssuesLater, RunsLater}
use Rattle.convoy_scenario.specs.Widened.{target_wait, widened}
use Rattle.convoy_origin.specs.Widened.{AssignmentsWiden, HasTarget, UpperOfWidened, widened_delay, widened_schedule}
use Rattle.convoy_origin.proofs.LaterRuns.{run_later}
use Rattle.convoy_origin.proofs.WidenedParts.{IsWidened, is_widened, same_addressed, same_sent, waits_there}

module _ (plan : Scenario) (schedule : Schedule) where
  abbrev wide : Scenario
  wide = widened plan

  abbrev is : IsWidened plan (widened plan)
  is = is_widened plan

  abbrev run : Schedule
  run = widened_schedule plan schedule

  abbrev target : ℕ
  target = plan.target_message

  -- ---- its delays
  delay_found : (p : Packet) (i : ℕ) → place_of p (packets_of wide) ≡ Some i → delay_of wide run p ≡ widened_delay plan schedule p
  unfolding widened_schedule
  delay_found p i e =
      let stands = stands_where_found (packets_of wide) i p e in
      let here = slice_get_within (packets_of wide) i p stands in
      let same : get_or (packets_of wide) i p ≡ p = same_Some (get_or (packets_of wide) i p) p (sym (slice_get-get_or (packets_of wide) i p here) ∙ stands) in
      delay_at_place wide run p i e
      ∙ get_or-map (widened_delay plan schedule) (packets_of wide) i p 0 here
      ∙ ap (widened_delay plan schedule) same

  delay_sent : (p : Packet) → is_sent wide p ≡ true → delay_of wide run p ≡ widened_delay plan schedule p
  delay_sent p sent = by_place (place_of p (packets_of wide)) refl where
    by_place : (o : Option ℕ) → place_of p (packets_of wide) ≡ o → delay_of wide run p ≡ widened_delay plan schedule p
    by_place None e = absurd (let no = unsent_if_nowhere found_if_sent wide p e in let both : true ≡ false = sym sent ∙ no in cc)
    by_place (Some i) e = delay_found p i e

  delay_stays : (p : Packet) → is_wait p ≡ false → widened_delay plan schedule p ≡ delay_of plan schedule p
  delay_stays (Wait m) travels = absurd (let no : true ≡ false = travels in cc)
  delay_stays (Multicast m g) travels = refl
  delay_stays (Propose m h g) travels = refl

  delays_same : (p : Packet) → is_wait p ≡ false → delay_of wide run p ≡ delay_of plan schedule p
  delays_same p travels = elim (cases_Bool (is_sent wide p)) [
    | inl sent ↦ delay_sent p sent ∙ delay_stays p travels
    | inr unsent ↦
        no_time_if_unsent wide run p (ap not unsent)
        ∙ sym (no_time_if_unsent plan schedule p (ap not (sym (same_sent plan wide is p travels) ∙ unsent)))
  ]

  module _ (given : IsAssignment plan schedule) where
    abbrev pub left : ℕ
    left = target_wait plan - delay_of plan schedule (Wait target)

    -- ---- its issues
    target_issued : (m : ℕ) → m ≡ target → m < length plan.multicasts → issue wide run m ≡ issue plan schedule m + left
    target_issued m e l =
        let none : may_wait (message_at wide m) ≡ false = ap (λ n. may_wait (message_at wide n)) e ∙ ap (λ n. nat_lt 0 n) is.target_fixed in
        let unsent = no_time_if_unsent wide run (Wait m) (ap not none) in
        let at_end : (message_at wide m).at ≡ (message_at plan m).at + target_wait plan =
        ap (λ n. (message_at wide n).at) e ∙ is.target_at (subst (λ n. n < length plan.multicasts) e l) ∙ ap (λ n. (message_at plan n).at + target_wait plan) (sym e) in
        let most = wait_at_most plan schedule target given in
        let mine : delay_of plan schedule (Wait m) ≡ delay_of plan schedule (Wait target) = ap (λ n. delay_of plan schedule (Wait n)) e in
        omega arith

    other_issued : (m : ℕ) → m ≢ target → m < length plan.multicasts → issue wide run m ≡ issue plan schedule m + left
    other_issued m d l =
        let first = is.other_at m d in
        let longer = is.other_wait m d l in
        let most = wait_at_most plan schedule target given in
        let mine = wait_at_most plan schedule m given in
        elim (cases_Bool (may_wait (message_at wide m))) [
          | inl waits ↦ let delay = delay_sent (Wait m) waits in omega arith
          | inr never ↦
              let none = ltb-false 0 (message_at wide m).longest_wait never in
              let unsent = no_time_if_unsent wide run (Wait m) (ap not never) in
              omega arith
        ]

    issued : (m g : ℕ) → GoesTo plan m g → issue wide run m ≡ issue plan schedule m + left
    issued m g goes =
        let l = number_of_goes plan m g goes in
        elim (cases_eq m target) [ inl e ↦ target_issued m e l | inr d ↦ other_issued m d l ]

    order_same : (widened_schedule plan schedule).order ≡ schedule.order
    unfolding widened_schedule
    order_same = refl

    pub issues_later : IssuesLater left plan schedule wide run
    issues_later = record {
      alike = is.alike;
      issues = issued;
      delays = delays_same;
      order = order_same;
    }

    runs_later : RunsLater left plan schedule wide run
    runs_later = run_later left plan schedule wide run issues_later

    -- ---- it is an assignment
    wait_within : (m : ℕ) → is_sent wide (Wait m) ≡ true → IsWithin (range_of wide (Wait m)) (widened_delay plan schedule (Wait m))
    wait_within m sent =
        let there = waits_there plan wide is m sent in
        let longer = is.other_wait m there.0 there.1 in
        let mine = wait_at_most plan schedule m given in
        (omega arith, omega arith)

    travel_within : (p : Packet) → is_wait p ≡ false → is_sent wide p ≡ true → IsWithin (range_of wide p) (widened_delay plan schedule p)
    travel_within p travels sent =
        subst₂ IsWithin (sym (is.ranges p travels)) (sym (delay_stays p travels))
        (within_if_sent plan schedule p given (sym (same_sent plan wide is p travels) ∙ sent))

    delay_within : (p : Packet) → is_sent wide p ≡ true → IsWithin (range_of wide p) (widened_delay plan schedule p)
    delay_within (Wait m) sent = wait_within m sent
    delay_within (Multicast m g) sent = travel_within (Multicast m g) refl sent
    delay_within (Propose m h g) sent = travel_within (Propose m h g) refl sent

    delays_within : AreWithin (ranges_of wide) run.delays
    unfolding ranges_of widened_schedule
    delays_within =
        all_zip_made IsWithin (range_of wide) (widened_delay plan schedule) (packets_of wide)
        (λ p i. delay_within p (sent_of_in found_if_sent wide p i))

    ranks_too : (ranks : List ℕ) → AreRanks plan ranks → AreRanks wide ranks
    ranks_too ranks are = record {
      long = are.long;
      small = are.small;
      nowhere = λ m g few below elsewhere. are.nowhere m g few below (sym (same_addressed plan wide is m g) ∙ elsewhere);
    }

    order_too : IsOrder wide run.order
    order_too =
        subst (IsOrder wide) (sym order_same) (record {
          arrivals = ranks_too schedule.order.arrivals given.order.arrivals;
          commits = ranks_too schedule.order.commits given.order.commits;
          fixed = λ ticks. given.order.fixed (sym is.alike.time ∙ ticks);
        })

    pub assignment : IsAssignment wide run
    assignment = record { delays = delays_within; order = order_too }

    -- ---- its latency
    pub latency_same : HasTarget plan → latency_of wide run ≡ latency_of plan schedule
    unfolding latency_of
    latency_same goes =
        subst₂ (λ m g. latency_at wide run m g ≡ latency_at plan schedule plan.target_message plan.target_group) (sym is.target_message) (sym is.target_group)
        (runs_later.latencies plan.target_message plan.target_group goes)

-- ---- the laws
pub assignments_widen : AssignmentsWiden
assignments_widen plan schedule goes given = (assignment plan schedule given, latency_same plan schedule given goes)

pub upper_of_widened : UpperOfWidened
upper_of_widened plan latency goes upper schedule given =
    let most = upper (widened_schedule plan schedule) (assignment plan schedule given) in
    let same = latency_same plan schedule given goes in
    omega arith
