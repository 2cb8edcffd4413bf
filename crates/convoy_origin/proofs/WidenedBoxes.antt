-- The box of the widened scenario: it is a box there, and holds the members with their issues moved.
use Rattle.std.proofs.Common.{◌≡◌, ℕ, zero, suc, ◌≤◌, true, false, inl, inr, List, [], ◌∷◌, get_or, Option, Some, None, refl, sym, ap, ap₂, subst₂, ◌∙◌, arith}
use Rattle.std.specs.List.{AllZip}
use Rattle.std.specs.Option.{is_some}
use Rattle.std.proofs.lemmas.Bool.{cases_Bool, ltb-false}
use Rattle.std.proofs.lemmas.List.{get_or-map}
use Rattle.std.proofs.lemmas.Option.{same_Some, slice_get-get_or, slice_get_within}
use Rattle.convoy_scenario.specs.Scenario.{Scenario, message_at, may_wait}
use Rattle.convoy_packets.specs.declared.packet.Packet.{Packet}
use Rattle.convoy_packets.specs.declared.packet.Packet.TheVariants.{Wait, Multicast, Propose}
use Rattle.convoy_packets.specs.Packets.{packets_of, place_of, is_wait}
use Rattle.convoy_packets.specs.Assignment.{Schedule, AreWithin, IsWithin, delay_of, range_of, ranges_of}
use Rattle.convoy_packets.specs.ScheduleLaws.{is_sent}
use Rattle.convoy_packets.proofs.Places.{stands_where_found}
use Rattle.convoy_packets.proofs.Sent.{found_if_sent}
use Rattle.convoy_intervals.specs.Boxes.{Box, IsBox, IsIn, IsInside, root_of}
use Rattle.convoy_origin.proofs.Lists.{all_zip_made}
use Rattle.convoy_origin.proofs.PacketDelays.{delay_at_place, no_delay, sent_of_in, unsent_if_nowhere}
use Rattle.convoy_scenario.specs.Widened.{target_wait, widened}
use Rattle.convoy_origin.specs.Widened.{widened_delay, widened_schedule}
use Rattle.convoy_origin.specs.WidenedBoxes.{InnerBoxesWiden, range_in, widened_box, widened_range}
use Rattle.convoy_origin.proofs.LaterRuns.{map_same_in}
use Rattle.convoy_origin.proofs.WidenedParts.{is_widened, same_sent, waits_there}

-- ---- lists
within_at : (ranges : List (ℕ × ℕ)) (delays : List ℕ) (i : ℕ) → AreWithin ranges delays → IsWithin (get_or ranges i (0, 0)) (get_or delays i 0)
within_at [] [] i h = (omega arith, omega arith)
within_at [] (d ∷ delays) i h = absurd h
within_at (r ∷ ranges) [] i h = absurd h
within_at (r ∷ ranges) (d ∷ delays) zero h = h.0
within_at (r ∷ ranges) (d ∷ delays) (suc i) h = within_at ranges delays i h.1

inside_at : (outer ranges : List (ℕ × ℕ)) (i : ℕ) → AllZip IsInside outer ranges → IsInside (get_or outer i (0, 0)) (get_or ranges i (0, 0))
inside_at [] [] i h = (omega arith, omega arith, omega arith)
inside_at [] (d ∷ ranges) i h = absurd h
inside_at (r ∷ outer) [] i h = absurd h
inside_at (r ∷ outer) (d ∷ ranges) zero h = h.0
inside_at (r ∷ outer) (d ∷ ranges) (suc i) h = inside_at outer ranges i h.1

-- ---- the range of a packet in a box
pub range_at_place : (plan : Scenario) (ranges : Box) (p : Packet) (i : ℕ) → place_of p (packets_of plan) ≡ Some i → range_in plan ranges p ≡ get_or ranges i (0, 0)
unfolding range_in
range_at_place plan ranges p i found = rw found refl

pub no_range : (plan : Scenario) (ranges : Box) (p : Packet) → place_of p (packets_of plan) ≡ None → range_in plan ranges p ≡ (0, 0)
unfolding range_in
no_range plan ranges p none = rw none refl

-- at its place stands the range that it has
range_there : (plan : Scenario) (p : Packet) (i : ℕ) → place_of p (packets_of plan) ≡ Some i → get_or (ranges_of plan) i (0, 0) ≡ range_of plan p
unfolding ranges_of
range_there plan p i e =
    let stands = stands_where_found (packets_of plan) i p e in
    let here = slice_get_within (packets_of plan) i p stands in
    let same : get_or (packets_of plan) i p ≡ p = same_Some (get_or (packets_of plan) i p) p (sym (slice_get-get_or (packets_of plan) i p here) ∙ stands) in
    get_or-map (range_of plan) (packets_of plan) i p (0, 0) here ∙ ap (range_of plan) same

-- in the root box a packet that is sent has its range
root_sent : (plan : Scenario) (p : Packet) → is_sent plan p ≡ true → range_in plan (ranges_of plan) p ≡ range_of plan p
root_sent plan p sent = by_place (place_of p (packets_of plan)) refl where
  by_place : (o : Option ℕ) → place_of p (packets_of plan) ≡ o → range_in plan (ranges_of plan) p ≡ range_of plan p
  by_place None e = absurd (let no = unsent_if_nowhere found_if_sent plan p e in let both : true ≡ false = sym sent ∙ no in cc)
  by_place (Some i) e = range_at_place plan (ranges_of plan) p i e ∙ range_there plan p i e

module _ (plan : Scenario) (ranges : Box) where
  nothing_sent : (p : Packet) → is_sent plan p ≡ false → range_in plan ranges p ≡ (0, 0)
  nothing_sent p unsent = by_place (place_of p (packets_of plan)) refl where
    by_place : (o : Option ℕ) → place_of p (packets_of plan) ≡ o → range_in plan ranges p ≡ (0, 0)
    by_place None e = no_range plan ranges p e
    by_place (Some i) e = absurd (let yes_sent : true ≡ is_sent plan p = ap is_some (sym e) ∙ found_if_sent plan p in let both : true ≡ false = yes_sent ∙ unsent in cc)

  -- the delay of a member is in the range of the packet
  pub member_within : (schedule : Schedule) (p : Packet) → IsIn ranges schedule → IsWithin (range_in plan ranges p) (delay_of plan schedule p)
  member_within schedule p member = by_place (place_of p (packets_of plan)) refl where
    by_place : (o : Option ℕ) → place_of p (packets_of plan) ≡ o → IsWithin (range_in plan ranges p) (delay_of plan schedule p)
    by_place None e = subst₂ IsWithin (sym (no_range plan ranges p e)) (sym (no_delay plan schedule p e)) (omega arith, omega arith)
    by_place (Some i) e =
        subst₂ IsWithin (sym (range_at_place plan ranges p i e)) (sym (delay_at_place plan schedule p i e)) (within_at ranges schedule.delays i member)

  -- .. and this lies inside that of the scenario
  inside_sent : (p : Packet) → IsBox plan ranges → is_sent plan p ≡ true → IsInside (range_of plan p) (range_in plan ranges p)
  inside_sent p is sent = by_place (place_of p (packets_of plan)) refl where
    by_place : (o : Option ℕ) → place_of p (packets_of plan) ≡ o → IsInside (range_of plan p) (range_in plan ranges p)
    by_place None e = absurd (let no = unsent_if_nowhere found_if_sent plan p e in let both : true ≡ false = sym sent ∙ no in cc)
    by_place (Some i) e =
        subst₂ IsInside (range_there plan p i e) (sym (range_at_place plan ranges p i e)) (inside_at (ranges_of plan) ranges i is)

  pub inside_wait : (m : ℕ) → IsBox plan ranges
      → ((range_in plan ranges (Wait m)).0 ≤ (range_in plan ranges (Wait m)).1) × ((range_in plan ranges (Wait m)).1 ≤ (message_at plan m).longest_wait)
  inside_wait m is = elim (cases_Bool (may_wait (message_at plan m))) [
    | inl waits ↦ ((inside_sent (Wait m) is waits).1, (inside_sent (Wait m) is waits).2)
    | inr never ↦
        let none = nothing_sent (Wait m) never in
        let low : (range_in plan ranges (Wait m)).0 ≡ 0 = ap (λ (r : ℕ × ℕ). r.0) none in
        let high : (range_in plan ranges (Wait m)).1 ≡ 0 = ap (λ (r : ℕ × ℕ). r.1) none in
        (omega arith, omega arith)
  ]

  -- ---- members
  delay_inside : (schedule : Schedule) (p : Packet) → IsIn ranges schedule → IsWithin (widened_range plan ranges p) (widened_delay plan schedule p)
  delay_inside schedule (Wait m) member =
      let mine = member_within schedule (Wait m) member in
      let targets = member_within schedule (Wait plan.target_message) member in
      let low = mine.0 in
      let high = mine.1 in
      let least = targets.0 in
      let most = targets.1 in
      (omega arith, omega arith)
  delay_inside schedule (Multicast m g) member = member_within schedule (Multicast m g) member
  delay_inside schedule (Propose m h g) member = member_within schedule (Propose m h g) member

  pub member_widens : (schedule : Schedule) → IsIn ranges schedule → IsIn (widened_box plan ranges) (widened_schedule plan schedule)
  unfolding widened_box widened_schedule
  member_widens schedule member =
      all_zip_made IsWithin (widened_range plan ranges) (widened_delay plan schedule) (packets_of (widened plan)) (λ p i. delay_inside schedule p member)

  -- ---- it is a box
  pub range_stays : (p : Packet) → is_wait p ≡ false → widened_range plan ranges p ≡ range_in plan ranges p
  range_stays (Wait m) travels = absurd (let no : true ≡ false = travels in cc)
  range_stays (Multicast m g) travels = refl
  range_stays (Propose m h g) travels = refl

  wait_inside : (m : ℕ) → IsBox plan ranges → may_wait (message_at (widened plan) m) ≡ true
      → IsInside (range_of (widened plan) (Wait m)) (widened_range plan ranges (Wait m))
  wait_inside m is waits =
      let there = waits_there plan (widened plan) (is_widened plan) m waits in
      let longer = (is_widened plan).other_wait m there.0 there.1 in
      let mine = inside_wait m is in
      let targets = inside_wait plan.target_message is in
      let ordered = mine.0 in
      let last = mine.1 in
      let target_ordered = targets.0 in
      (omega arith, omega arith, omega arith)

  travel_inside : (p : Packet) → IsBox plan ranges → is_wait p ≡ false → is_sent (widened plan) p ≡ true
      → IsInside (range_of (widened plan) p) (widened_range plan ranges p)
  travel_inside p is travels sent =
      subst₂ IsInside (sym ((is_widened plan).ranges p travels)) (sym (range_stays p travels))
      (inside_sent p is (sym (same_sent plan (widened plan) (is_widened plan) p travels) ∙ sent))

  pub range_inside : (p : Packet) → IsBox plan ranges → is_sent (widened plan) p ≡ true → IsInside (range_of (widened plan) p) (widened_range plan ranges p)
  range_inside (Wait m) is sent = wait_inside m is sent
  range_inside (Multicast m g) is sent = travel_inside (Multicast m g) is refl sent
  range_inside (Propose m h g) is sent = travel_inside (Propose m h g) is refl sent

  pub box_widens : IsBox plan ranges → IsBox (widened plan) (widened_box plan ranges)
  unfolding widened_box ranges_of
  box_widens is =
      all_zip_made IsInside (range_of (widened plan)) (widened_range plan ranges) (packets_of (widened plan))
      (λ p i. range_inside p is (sent_of_in found_if_sent (widened plan) p i))

-- ---- the root
module _ (plan : Scenario) where
  root_wait : (m : ℕ) → range_in plan (ranges_of plan) (Wait m) ≡ (0, (message_at plan m).longest_wait)
  root_wait m = elim (cases_Bool (may_wait (message_at plan m))) [
    | inl waits ↦ root_sent plan (Wait m) waits
    | inr never ↦
        let none : 0 ≡ (message_at plan m).longest_wait = omega (arith, ltb-false 0 (message_at plan m).longest_wait never) in
        nothing_sent plan (ranges_of plan) (Wait m) never ∙ ap (λ n. (0, n)) none
  ]

  root_range : (p : Packet) → is_sent (widened plan) p ≡ true → widened_range plan (ranges_of plan) p ≡ range_of (widened plan) p
  root_range (Wait m) sent =
      let there = waits_there plan (widened plan) (is_widened plan) m sent in
      let longer = (is_widened plan).other_wait m there.0 there.1 in
      let mine = root_wait m in
      let targets = root_wait plan.target_message in
      let my_first : (range_in plan (ranges_of plan) (Wait m)).0 ≡ 0 = ap (λ (r : ℕ × ℕ). r.0) mine in
      let my_last : (range_in plan (ranges_of plan) (Wait m)).1 ≡ (message_at plan m).longest_wait = ap (λ (r : ℕ × ℕ). r.1) mine in
      let first : (range_in plan (ranges_of plan) (Wait plan.target_message)).0 ≡ 0 = ap (λ (r : ℕ × ℕ). r.0) targets in
      let last : (range_in plan (ranges_of plan) (Wait plan.target_message)).1 ≡ target_wait plan = ap (λ (r : ℕ × ℕ). r.1) targets in
      ap₂ (λ (x y : ℕ). (x, y)) (omega arith) (omega arith)
  root_range (Multicast m g) sent =
      root_sent plan (Multicast m g) (sym (same_sent plan (widened plan) (is_widened plan) (Multicast m g) refl) ∙ sent) ∙ sym ((is_widened plan).ranges (Multicast m g) refl)
  root_range (Propose m h g) sent =
      root_sent plan (Propose m h g) (sym (same_sent plan (widened plan) (is_widened plan) (Propose m h g) refl) ∙ sent) ∙ sym ((is_widened plan).ranges (Propose m h g) refl)

pub root_box_widens : (plan : Scenario) → widened_box plan (root_of plan) ≡ root_of (widened plan)
unfolding widened_box ranges_of
root_box_widens plan =
    map_same_in (widened_range plan (root_of plan)) (range_of (widened plan)) (packets_of (widened plan))
    (λ p i. root_range plan p (sent_of_in found_if_sent (widened plan) p i))

-- ---- boxes inside others
module _ (plan : Scenario) (outer inner : Box) (inside : AllZip IsInside outer inner) where
  range_kept : (p : Packet) → IsInside (range_in plan outer p) (range_in plan inner p)
  range_kept p = by_place (place_of p (packets_of plan)) refl where
    by_place : (o : Option ℕ) → place_of p (packets_of plan) ≡ o → IsInside (range_in plan outer p) (range_in plan inner p)
    by_place None e = subst₂ IsInside (sym (no_range plan outer p e)) (sym (no_range plan inner p e)) (omega arith, omega arith, omega arith)
    by_place (Some i) e = subst₂ IsInside (sym (range_at_place plan outer p i e)) (sym (range_at_place plan inner p i e)) (inside_at outer inner i inside)

  widened_kept : (p : Packet) → IsInside (widened_range plan outer p) (widened_range plan inner p)
  widened_kept (Wait m) =
      let mine = range_kept (Wait m) in
      let targets = range_kept (Wait plan.target_message) in
      let first = mine.0 in
      let ordered = mine.1 in
      let last = mine.2 in
      let target_first = targets.0 in
      let target_ordered = targets.1 in
      let target_last = targets.2 in
      (omega arith, omega arith, omega arith)
  widened_kept (Multicast m g) = range_kept (Multicast m g)
  widened_kept (Propose m h g) = range_kept (Propose m h g)

  stay_inside : AllZip IsInside (widened_box plan outer) (widened_box plan inner)
  unfolding widened_box
  stay_inside = all_zip_made IsInside (widened_range plan outer) (widened_range plan inner) (packets_of (widened plan)) (λ p i. widened_kept p)

pub inner_boxes_widen : InnerBoxesWiden
inner_boxes_widen plan outer inner inside = stay_inside plan outer inner inside
