-- The tables of a widened box, beside those of the box.
use Rattle.std.proofs.Common.{◌≡◌, ◌≢◌, ℕ, zero, suc, ◌+◌, ◌-◌, ◌<◌, ◌≤◌, not, nat_lt, max, true, false, inl, inr, List, [], ◌∷◌, length, get_or, map, fold, Option, Some, None, refl, sym, ap, subst, ◌∙◌, arith}
use Rattle.std.proofs.lemmas.Bool.{cases_Bool, ltb-false}
use Rattle.std.proofs.lemmas.List.{get_or-map}
use Rattle.std.proofs.lemmas.Option.{same_Some, slice_get-get_or, slice_get_within}
use Rattle.convoy_scenario.specs.Scenario.{Scenario, GoesTo, message_at, may_wait}
use Rattle.convoy_packets.specs.declared.packet.Packet.{Packet}
use Rattle.convoy_packets.specs.declared.packet.Packet.TheVariants.{Wait, Multicast, Propose}
use Rattle.convoy_packets.specs.Packets.{packets_of, place_of, is_wait}
use Rattle.convoy_packets.specs.Assignment.{Schedule, delay_of, in_fixed_order}
use Rattle.convoy_packets.specs.ScheduleLaws.{is_sent}
use Rattle.convoy_packets.proofs.Places.{stands_where_found}
use Rattle.convoy_packets.proofs.Sent.{found_if_sent}
use Rattle.convoy_packets.proofs.Ranges.{no_time_if_unsent}
use Rattle.convoy_sim.specs.Times.{issue, arrive, settle, propose_arrive}
use Rattle.convoy_sim.proofs.Membership.{IsIn as IsAmong}
use Rattle.convoy_sim.proofs.Addressed.{in_of_goes, number_of_goes}
use Rattle.convoy_intervals.specs.Boxes.{Box, IsBox}
use Rattle.convoy_origin.proofs.PacketDelays.{delay_at_place, no_delay, unsent_if_nowhere}
use Rattle.convoy_scenario.specs.Widened.{target_wait, widened}
use Rattle.convoy_origin.specs.WidenedBoxes.{range_in, target_range, widened_box, widened_range}
use Rattle.convoy_origin.specs.WidenedTables.{AreMoved, TablesWiden}
use Rattle.convoy_origin.proofs.LaterRuns.{plus_greatest}
use Rattle.convoy_origin.proofs.WidenedParts.{IsWidened, is_widened, same_sent}
use Rattle.convoy_origin.proofs.WidenedBoxes.{inside_wait, no_range, range_at_place}

both_greatest : {X : Type 0} (a b : ℕ) (f g : X → ℕ) (xs : List X) (one : X) → IsAmong one xs → ((x : X) → f x + a ≡ g x + b)
    → fold max 0 (map f xs) + a ≡ fold max 0 (map g xs) + b
both_greatest a b f g xs one i h =
    sym (plus_greatest a (λ x. f x + a) f xs one i (λ x j. refl)) ∙ plus_greatest b (λ x. f x + a) g xs one i (λ x j. h x)

-- ---- where the issue of a message is moved, so are its arrivals and commits
module _ (plan wide : Scenario) (is : IsWidened plan wide) (schedule run : Schedule)
    (same : (p : Packet) → is_wait p ≡ false → delay_of wide run p ≡ delay_of plan schedule p)
    (a b m : ℕ) (issued : issue wide run m + a ≡ issue plan schedule m + b) where
  arrival_moves : (g : ℕ) → arrive wide run m g + a ≡ arrive plan schedule m g + b
  unfolding arrive
  arrival_moves g = let delay = same (Multicast m g) refl in omega arith

  proposal_moves : (g h : ℕ) → propose_arrive wide run m g h + a ≡ propose_arrive plan schedule m g h + b
  proposal_moves g h =
      let start = arrival_moves h in
      let delay = same (Propose m h g) refl in
      omega arith

  settling_moves : (g : ℕ) → GoesTo plan m g → settle wide run m g + a ≡ settle plan schedule m g + b
  unfolding settle
  settling_moves g goes =
      ap (λ hs. fold max 0 (map (propose_arrive wide run m g) hs) + a) (is.alike.destinations m)
      ∙ both_greatest a b (propose_arrive wide run m g) (propose_arrive plan schedule m g) (message_at plan m).destinations g (in_of_goes plan m g goes)
      (λ h. proposal_moves g h)

-- ---- one end of each range
pick_at : (pick : ℕ × ℕ → ℕ) → pick (0, 0) ≡ 0 → (ranges : Box) (i : ℕ) → get_or (map pick ranges) i 0 ≡ pick (get_or ranges i (0, 0))
pick_at pick none [] i = sym none
pick_at pick none (r ∷ ranges) zero = refl
pick_at pick none (r ∷ ranges) (suc i) = pick_at pick none ranges i

module _ (pick : ℕ × ℕ → ℕ) (none : pick (0, 0) ≡ 0) (plan : Scenario) (ranges : Box) where
  abbrev ends : Schedule
  ends = in_fixed_order (map pick ranges)

  abbrev wide_ends : Schedule
  wide_ends = in_fixed_order (map pick (widened_box plan ranges))

  end_of : (p : Packet) → delay_of plan ends p ≡ pick (range_in plan ranges p)
  end_of p = by_place (place_of p (packets_of plan)) refl where
    by_place : (o : Option ℕ) → place_of p (packets_of plan) ≡ o → delay_of plan ends p ≡ pick (range_in plan ranges p)
    by_place None e = no_delay plan ends p e ∙ sym none ∙ ap pick (sym (no_range plan ranges p e))
    by_place (Some i) e = delay_at_place plan ends p i e ∙ pick_at pick none ranges i ∙ ap pick (sym (range_at_place plan ranges p i e))

  wide_end_found : (p : Packet) (i : ℕ) → place_of p (packets_of (widened plan)) ≡ Some i → delay_of (widened plan) wide_ends p ≡ pick (widened_range plan ranges p)
  unfolding widened_box
  wide_end_found p i e =
      let packets = packets_of (widened plan) in
      let stands = stands_where_found packets i p e in
      let here = slice_get_within packets i p stands in
      let same : get_or packets i p ≡ p = same_Some (get_or packets i p) p (sym (slice_get-get_or packets i p here) ∙ stands) in
      delay_at_place (widened plan) wide_ends p i e
      ∙ pick_at pick none (widened_box plan ranges) i
      ∙ ap pick (get_or-map (widened_range plan ranges) packets i p (0, 0) here ∙ ap (widened_range plan ranges) same)

  wide_end_of : (p : Packet) → is_sent (widened plan) p ≡ true → delay_of (widened plan) wide_ends p ≡ pick (widened_range plan ranges p)
  wide_end_of p sent = by_place (place_of p (packets_of (widened plan))) refl where
    by_place : (o : Option ℕ) → place_of p (packets_of (widened plan)) ≡ o → delay_of (widened plan) wide_ends p ≡ pick (widened_range plan ranges p)
    by_place None e = absurd (let no = unsent_if_nowhere found_if_sent (widened plan) p e in let both : true ≡ false = sym sent ∙ no in cc)
    by_place (Some i) e = wide_end_found p i e

  same_range : (p : Packet) → is_wait p ≡ false → widened_range plan ranges p ≡ range_in plan ranges p
  same_range (Wait m) travels = absurd (let no : true ≡ false = travels in cc)
  same_range (Multicast m g) travels = refl
  same_range (Propose m h g) travels = refl

  ends_same : (p : Packet) → is_wait p ≡ false → delay_of (widened plan) wide_ends p ≡ delay_of plan ends p
  ends_same p travels = elim (cases_Bool (is_sent (widened plan) p)) [
    | inl sent ↦ wide_end_of p sent ∙ ap pick (same_range p travels) ∙ sym (end_of p)
    | inr unsent ↦
        no_time_if_unsent (widened plan) wide_ends p (ap not unsent)
        ∙ sym (no_time_if_unsent plan ends p (ap not (sym (same_sent plan (widened plan) (is_widened plan) p travels) ∙ unsent)))
  ]

  target_issue : plan.target_message < length plan.multicasts
      → issue (widened plan) wide_ends plan.target_message + pick (range_in plan ranges (Wait plan.target_message))
      ≡ issue plan ends plan.target_message + target_wait plan
  target_issue l =
      let never : may_wait (message_at (widened plan) plan.target_message) ≡ false = ap (λ n. nat_lt 0 n) (is_widened plan).target_fixed in
      let unsent = no_time_if_unsent (widened plan) wide_ends (Wait plan.target_message) (ap not never) in
      let at_end = (is_widened plan).target_at l in
      let mine = end_of (Wait plan.target_message) in
      omega arith

  other_issue : (by m : ℕ) → m ≢ plan.target_message → m < length plan.multicasts → by ≤ target_wait plan
      → pick (widened_range plan ranges (Wait m)) ≡ (pick (range_in plan ranges (Wait m)) + target_wait plan) - by
      → pick (range_in plan ranges (Wait m)) ≤ (message_at plan m).longest_wait
      → issue (widened plan) wide_ends m + by ≡ issue plan ends m + target_wait plan
  other_issue by m d l few is most =
      let first = (is_widened plan).other_at m d in
      let longer = (is_widened plan).other_wait m d l in
      let mine = end_of (Wait m) in
      elim (cases_Bool (may_wait (message_at (widened plan) m))) [
        | inl waits ↦ let delay = wide_end_of (Wait m) waits in omega arith
        | inr never ↦
            let none_there = ltb-false 0 (message_at (widened plan) m).longest_wait never in
            let unsent = no_time_if_unsent (widened plan) wide_ends (Wait m) (ap not never) in
            omega arith
      ]

module _ (plan : Scenario) (ranges : Box) (is : IsBox plan ranges) (m g : ℕ) (goes : GoesTo plan m g) where
  abbrev first : ℕ × ℕ → ℕ
  first range = range.0

  abbrev last : ℕ × ℕ → ℕ
  last range = range.1

  moved_by : (sooner later : ℕ)
      → issue (widened plan) (in_fixed_order (map first (widened_box plan ranges))) m + sooner ≡ issue plan (in_fixed_order (map first ranges)) m + target_wait plan
      → issue (widened plan) (in_fixed_order (map last (widened_box plan ranges))) m + later ≡ issue plan (in_fixed_order (map last ranges)) m + target_wait plan
      → AreMoved plan ranges sooner later m g
  moved_by sooner later low high = record {
    least_arrival = arrival_moves plan (widened plan) (is_widened plan) (in_fixed_order (map first ranges)) (in_fixed_order (map first (widened_box plan ranges)))
        (ends_same first refl plan ranges) sooner (target_wait plan) m low g;
    greatest_arrival = arrival_moves plan (widened plan) (is_widened plan) (in_fixed_order (map last ranges)) (in_fixed_order (map last (widened_box plan ranges)))
        (ends_same last refl plan ranges) later (target_wait plan) m high g;
    least_settling = settling_moves plan (widened plan) (is_widened plan) (in_fixed_order (map first ranges)) (in_fixed_order (map first (widened_box plan ranges)))
        (ends_same first refl plan ranges) sooner (target_wait plan) m low g goes;
    greatest_settling = settling_moves plan (widened plan) (is_widened plan) (in_fixed_order (map last ranges)) (in_fixed_order (map last (widened_box plan ranges)))
        (ends_same last refl plan ranges) later (target_wait plan) m high g goes;
  }

  known : m < length plan.multicasts
  known = number_of_goes plan m g goes

  target_moved : m ≡ plan.target_message → AreMoved plan ranges (target_range plan ranges).0 (target_range plan ranges).1 m g
  target_moved e =
      moved_by (target_range plan ranges).0 (target_range plan ranges).1
      (subst (λ n. issue (widened plan) (in_fixed_order (map first (widened_box plan ranges))) n + (target_range plan ranges).0 ≡ issue plan (in_fixed_order (map first ranges)) n + target_wait plan)
      (sym e) (target_issue first refl plan ranges (subst (λ n. n < length plan.multicasts) e known)))
      (subst (λ n. issue (widened plan) (in_fixed_order (map last (widened_box plan ranges))) n + (target_range plan ranges).1 ≡ issue plan (in_fixed_order (map last ranges)) n + target_wait plan)
      (sym e) (target_issue last refl plan ranges (subst (λ n. n < length plan.multicasts) e known)))

  other_moved : m ≢ plan.target_message
      → AreMoved plan ranges (target_range plan ranges).1 (target_range plan ranges).0 m g
  other_moved d =
      let targets = inside_wait plan ranges plan.target_message is in
      let ordered = targets.0 in
      let high = targets.1 in
      let mine = inside_wait plan ranges m is in
      let my_ordered = mine.0 in
      let my_high = mine.1 in
      moved_by (target_range plan ranges).1 (target_range plan ranges).0
      (other_issue first refl plan ranges (target_range plan ranges).1 m d known high refl (omega arith))
      (other_issue last refl plan ranges (target_range plan ranges).0 m d known (omega arith) refl my_high)

pub tables_widen : TablesWiden
tables_widen plan ranges is m g goes = (target_moved plan ranges is m g goes, other_moved plan ranges is m g goes)
