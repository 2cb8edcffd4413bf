-- Where the target's wait has one value in a box, the widened box is exact: the way back from a run of the widened scenario.
use Rattle.std.proofs.Common.{◌≡◌, ◌≢◌, ℕ, ◌+◌, ◌-◌, ◌<◌, ◌==◌, if◌then◌else◌, nat_lt, not, true, false, inl, inr, List, length, get_or, map, Option, Some, None, refl, sym, ap, subst, subst₂, ◌∙◌, arith}
use Rattle.std.proofs.lemmas.Bool.{cases_Bool, cases_eq, cases_lt, cond-true, cond-false, eq-eqb, ne_eqb, ltb-true, ltb-false, lt-ltb, le-ltb}
use Rattle.std.proofs.lemmas.List.{get_or-map, get_or_past}
use Rattle.std.proofs.lemmas.Option.{same_Some, slice_get-get_or, slice_get_within}
use Rattle.convoy_scenario.specs.Scenario.{Message, Scenario, no_message, message_at, may_wait}
use Rattle.convoy_packets.specs.declared.packet.Packet.{Packet}
use Rattle.convoy_packets.specs.declared.packet.Packet.TheVariants.{Wait, Multicast, Propose}
use Rattle.convoy_packets.specs.Packets.{packets_of, place_of, is_wait}
use Rattle.convoy_packets.specs.Order.{AreRanks}
use Rattle.convoy_packets.specs.Assignment.{Schedule, AreWithin, IsAssignment, IsWithin, delay_of}
use Rattle.convoy_packets.specs.ScheduleLaws.{is_sent}
use Rattle.convoy_packets.proofs.Places.{stands_where_found}
use Rattle.convoy_packets.proofs.Sent.{found_if_sent}
use Rattle.convoy_packets.proofs.Ranges.{no_time_if_unsent}
use Rattle.convoy_sim.specs.Times.{issue}
use Rattle.convoy_sim.specs.Delivery.{latency_at, latency_of}
use Rattle.convoy_sim.proofs.Addressed.{number_of_goes}
use Rattle.convoy_intervals.specs.Boxes.{Box, IsBox, IsIn}
use Rattle.convoy_intervals.proofs.Members.{AreWithin-outer}
use Rattle.convoy_origin.proofs.Lists.{all_zip_made}
use Rattle.convoy_origin.proofs.PacketDelays.{delay_at_place, sent_of_in, unsent_if_nowhere}
use Rattle.convoy_origin.specs.Later.{IssuesLater}
use Rattle.convoy_scenario.specs.Widened.{target_wait, widened}
use Rattle.convoy_origin.specs.Widened.{HasTarget}
use Rattle.convoy_origin.specs.WidenedBoxes.{range_in, widened_box, widened_range}
use Rattle.convoy_origin.specs.WidenedRegions.{StandOnce, WidenedIsExact}
use Rattle.convoy_origin.proofs.LaterRuns.{run_later}
use Rattle.convoy_origin.proofs.LaterStages.{kept_sooner}
use Rattle.convoy_origin.proofs.WidenedParts.{IsWidened, is_widened, same_addressed, same_sent}
use Rattle.convoy_origin.proofs.WidenedBoxes.{inside_wait, member_within, range_at_place, range_stays}
use Rattle.convoy_origin.proofs.WidenedItself.{box_again}

module _ (plan : Scenario) (ranges : Box) (later : Schedule) where
  abbrev wide : Scenario
  wide = widened plan

  abbrev is : IsWidened plan (widened plan)
  is = is_widened plan

  abbrev target : ℕ
  target = plan.target_message

  -- what the target waits
  abbrev waited : ℕ
  waited = (range_in plan ranges (Wait target)).0

  narrowed : Packet → ℕ
  narrowed (Wait m) = if m == target then waited else (delay_of wide later (Wait m) + waited) - target_wait plan
  narrowed (Multicast m g) = delay_of wide later (Multicast m g)
  narrowed (Propose m h g) = delay_of wide later (Propose m h g)

  abbrev back : Schedule
  back = record { delays = map narrowed (packets_of plan); order = later.order }

  narrowed_target : narrowed (Wait target) ≡ waited
  unfolding narrowed
  narrowed_target = cond-true (target == target) _ _ (eq-eqb target target refl)

  narrowed_other : (m : ℕ) → m ≢ target → narrowed (Wait m) ≡ (delay_of wide later (Wait m) + waited) - target_wait plan
  unfolding narrowed
  narrowed_other m d = cond-false (m == target) _ _ (ne_eqb m target d)

  narrowed_stays : (p : Packet) → is_wait p ≡ false → narrowed p ≡ delay_of wide later p
  unfolding narrowed
  narrowed_stays (Wait m) travels = absurd (let no : true ≡ false = travels in cc)
  narrowed_stays (Multicast m g) travels = refl
  narrowed_stays (Propose m h g) travels = refl

  delay_sent : (p : Packet) → is_sent plan p ≡ true → delay_of plan back p ≡ narrowed p
  delay_sent p sent = by_place (place_of p (packets_of plan)) refl where
    by_place : (o : Option ℕ) → place_of p (packets_of plan) ≡ o → delay_of plan back p ≡ narrowed p
    by_place None e = absurd (let no = unsent_if_nowhere found_if_sent plan p e in let both : true ≡ false = sym sent ∙ no in cc)
    by_place (Some i) e =
        let stands = stands_where_found (packets_of plan) i p e in
        let here = slice_get_within (packets_of plan) i p stands in
        let same : get_or (packets_of plan) i p ≡ p = same_Some (get_or (packets_of plan) i p) p (sym (slice_get-get_or (packets_of plan) i p here) ∙ stands) in
        delay_at_place plan back p i e ∙ get_or-map narrowed (packets_of plan) i p 0 here ∙ ap narrowed same

  delays_same : (p : Packet) → is_wait p ≡ false → delay_of wide later p ≡ delay_of plan back p
  delays_same p travels = elim (cases_Bool (is_sent plan p)) [
    | inl sent ↦ sym (delay_sent p sent ∙ narrowed_stays p travels)
    | inr unsent ↦
        no_time_if_unsent wide later p (ap not (same_sent plan wide is p travels ∙ unsent))
        ∙ sym (no_time_if_unsent plan back p (ap not unsent))
  ]

  at_place : (p : Packet) (i : ℕ) → place_of p (packets_of wide) ≡ Some i → get_or (widened_box plan ranges) i (0, 0) ≡ widened_range plan ranges p
  unfolding widened_box
  at_place p i e =
      let stands = stands_where_found (packets_of wide) i p e in
      let here = slice_get_within (packets_of wide) i p stands in
      let same : get_or (packets_of wide) i p ≡ p = same_Some (get_or (packets_of wide) i p) p (sym (slice_get-get_or (packets_of wide) i p here) ∙ stands) in
      get_or-map (widened_range plan ranges) (packets_of wide) i p (0, 0) here ∙ ap (widened_range plan ranges) same

  -- the widened box has the range of a packet that is sent
  widened_there : (p : Packet) → is_sent wide p ≡ true → range_in wide (widened_box plan ranges) p ≡ widened_range plan ranges p
  widened_there p sent = by_place (place_of p (packets_of wide)) refl where
    by_place : (o : Option ℕ) → place_of p (packets_of wide) ≡ o → range_in wide (widened_box plan ranges) p ≡ widened_range plan ranges p
    by_place None e = absurd (let no = unsent_if_nowhere found_if_sent wide p e in let both : true ≡ false = sym sent ∙ no in cc)
    by_place (Some i) e = range_at_place wide (widened_box plan ranges) p i e ∙ at_place p i e

  module _ (box : IsBox plan ranges) (one : (range_in plan ranges (Wait target)).0 ≡ (range_in plan ranges (Wait target)).1)
      (given : IsAssignment wide later) (member : IsIn (widened_box plan ranges) later) where
    within : (p : Packet) → is_sent wide p ≡ true → IsWithin (widened_range plan ranges p) (delay_of wide later p)
    within p sent = subst (λ r. IsWithin r (delay_of wide later p)) (widened_there p sent) (member_within wide (widened_box plan ranges) later p member)

    -- a message that may wait may do so in the widened scenario, too
    waits_too : (m : ℕ) → m ≢ target → m < length plan.multicasts → 0 < (message_at plan m).longest_wait + target_wait plan → is_sent wide (Wait m) ≡ true
    waits_too m d l some = let longer = is.other_wait m d l in lt-ltb _ _ (omega arith)

    known_of_waiting : (m : ℕ) → may_wait (message_at plan m) ≡ true → m < length plan.multicasts
    known_of_waiting m waits = elim (cases_lt m (length plan.multicasts)) [
      | inl l ↦ l
      | inr l ↦ absurd (
          let none : (message_at plan m).longest_wait ≡ 0 = ap (λ (x : Message). x.longest_wait) (get_or_past plan.multicasts m no_message l) in
          let long = ltb-true 0 (message_at plan m).longest_wait waits in omega arith)
    ]

    -- the wait of another message, back
    other_within : (m : ℕ) → m ≢ target → may_wait (message_at plan m) ≡ true → IsWithin (range_in plan ranges (Wait m)) (narrowed (Wait m))
    other_within m d waits =
        let long = ltb-true 0 (message_at plan m).longest_wait waits in
        let there = within (Wait m) (waits_too m d (known_of_waiting m waits) (omega arith)) in
        let low = there.0 in
        let high = there.1 in
        let back_is = narrowed_other m d in
        let targets = inside_wait plan ranges target box in
        let most = targets.1 in
        let only = one in
        let mine = inside_wait plan ranges m box in
        let ordered = mine.0 in
        (omega arith, omega arith)

    wait_within : (m : ℕ) → may_wait (message_at plan m) ≡ true → IsWithin (range_in plan ranges (Wait m)) (narrowed (Wait m))
    wait_within m waits = elim (cases_eq m target) [
      | inl e ↦
          let here = narrowed_target in
          let only = one in
          subst (λ n. IsWithin (range_in plan ranges (Wait n)) (narrowed (Wait n))) (sym e) (omega arith, omega arith)
      | inr d ↦ other_within m d waits
    ]

    travel_within : (p : Packet) → is_wait p ≡ false → is_sent plan p ≡ true → IsWithin (range_in plan ranges p) (narrowed p)
    travel_within p travels sent =
        subst₂ IsWithin (range_stays plan ranges p travels) (sym (narrowed_stays p travels)) (within p (same_sent plan wide is p travels ∙ sent))

    each_within : (p : Packet) → is_sent plan p ≡ true → IsWithin (range_in plan ranges p) (narrowed p)
    each_within (Wait m) sent = wait_within m sent
    each_within (Multicast m g) sent = travel_within (Multicast m g) refl sent
    each_within (Propose m h g) sent = travel_within (Propose m h g) refl sent

    back_within : StandOnce plan → IsIn ranges back
    back_within once =
        subst (λ rs. AreWithin rs (map narrowed (packets_of plan))) (box_again plan ranges once box)
        (all_zip_made IsWithin (range_in plan ranges) narrowed (packets_of plan) (λ p i. each_within p (sent_of_in found_if_sent plan p i)))

    ranks_back : (ranks : List ℕ) → AreRanks wide ranks → AreRanks plan ranks
    ranks_back ranks are = record {
      long = are.long;
      small = are.small;
      nowhere = λ m g few below elsewhere. are.nowhere m g few below (same_addressed plan wide is m g ∙ elsewhere);
    }

    back_assigned : StandOnce plan → IsAssignment plan back
    back_assigned once = record {
      delays = AreWithin-outer _ ranges (map narrowed (packets_of plan)) box (back_within once);
      order = record {
        arrivals = ranks_back later.order.arrivals given.order.arrivals;
        commits = ranks_back later.order.commits given.order.commits;
        fixed = λ ticks. given.order.fixed (is.alike.time ∙ ticks);
      };
    }

    -- ---- its issues
    abbrev left : ℕ
    left = target_wait plan - waited

    target_issued : target < length plan.multicasts → issue wide later target ≡ issue plan back target + left
    target_issued l =
        let never : may_wait (message_at wide target) ≡ false = ap (λ n. nat_lt 0 n) is.target_fixed in
        let unsent = no_time_if_unsent wide later (Wait target) (ap not never) in
        let at_end = is.target_at l in
        let targets = inside_wait plan ranges target box in
        let ordered = targets.0 in
        let most = targets.1 in
        elim (cases_Bool (may_wait (message_at plan target))) [
          | inl waits ↦ let delay = delay_sent (Wait target) waits in let here = narrowed_target in omega arith
          | inr stays ↦
              let none = ltb-false 0 (message_at plan target).longest_wait stays in
              let mine = no_time_if_unsent plan back (Wait target) (ap not stays) in
              omega arith
        ]

    other_issued : (m : ℕ) → m ≢ target → m < length plan.multicasts → issue wide later m ≡ issue plan back m + left
    other_issued m d l =
        let first = is.other_at m d in
        let longer = is.other_wait m d l in
        let targets = inside_wait plan ranges target box in
        let ordered = targets.0 in
        let most = targets.1 in
        let only = one in
        let mine = inside_wait plan ranges m box in
        let my_ordered = mine.0 in
        let my_most = mine.1 in
        elim (cases_Bool (may_wait (message_at wide m))) [
          | inl waits ↦
              let there = within (Wait m) waits in
              let low = there.0 in
              let high = there.1 in
              elim (cases_Bool (may_wait (message_at plan m))) [
                | inl waits_here ↦ let delay = delay_sent (Wait m) waits_here in let back_is = narrowed_other m d in omega arith
                | inr stays ↦
                    let none = ltb-false 0 (message_at plan m).longest_wait stays in
                    let here = no_time_if_unsent plan back (Wait m) (ap not stays) in
                    omega arith
              ]
          | inr never ↦
              let none_there = ltb-false 0 (message_at wide m).longest_wait never in
              let unsent = no_time_if_unsent wide later (Wait m) (ap not never) in
              let stays : may_wait (message_at plan m) ≡ false = le-ltb _ _ (omega arith) in
              let here = no_time_if_unsent plan back (Wait m) (ap not stays) in
              omega arith
        ]

    issues_later : IssuesLater left plan back wide later
    issues_later = record {
      alike = is.alike;
      issues = λ m g goes.
          let l = number_of_goes plan m g goes in
          elim (cases_eq m target) [
            | inl e ↦ subst (λ n. issue wide later n ≡ issue plan back n + left) (sym e) (target_issued (subst (λ n. n < length plan.multicasts) e l))
            | inr d ↦ other_issued m d l
          ];
      delays = delays_same;
      order = refl;
    }

    latency_back : HasTarget plan → latency_of wide later ≡ latency_of plan back
    unfolding latency_of
    latency_back goes =
        subst₂ (λ m g. latency_at wide later m g ≡ latency_at plan back plan.target_message plan.target_group) (sym is.target_message) (sym is.target_group)
        ((run_later left plan back wide later issues_later).latencies plan.target_message plan.target_group goes)

pub widened_exact : WidenedIsExact
widened_exact plan region later goes once is one given member = (
  back plan region.ranges later,
  back_assigned plan region.ranges later is.inside one given member.0 once,
  (
    back_within plan region.ranges later is.inside one given member.0 once,
    kept_sooner (left plan region.ranges later is.inside one given member.0) plan (back plan region.ranges later) (widened plan) later
        (issues_later plan region.ranges later is.inside one given member.0) region.before is.within member.1,
  ),
  latency_back plan region.ranges later is.inside one given member.0 goes,
)
