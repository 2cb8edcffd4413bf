-- Ranges, and the delays of schedules by packet.
use Rattle.std.proofs.Common.{◌≡◌, ℕ, zero, suc, ◌<◌, ◌≤◌, ◌==◌, ◌&&◌, ◌||◌, Bool, true, false, cond, not, nat_lt, List, [], ◌∷◌, length, get_or, slice_set, IfSome, Option, Some, None, arith, refl, sym, ap, ◌∙◌, IsTrue}
use Rattle.std.specs.List.{All, AllByRecursion, find, list_any, slice_get}
use Rattle.std.specs.Option.{is_some, option_map_or}
use Rattle.std.proofs.lemmas.Bool.{true≢false, not-true}
use Rattle.std.proofs.lemmas.List.{length-map, get_or-map}
use Rattle.std.proofs.lemmas.List.Elements.{All-head, All-tail, All-map, recursion_from_All}
use Rattle.std.proofs.lemmas.Option.{same_Some, slice_get-get_or, slice_get_within}
use Rattle.convoy_draft.specs.declared.limits.TheConstants.{GREATEST_WHOLE_DELAY, LONGEST_WAIT}
use Rattle.convoy_scenario.specs.declared.sender.Sender.{Sender}
use Rattle.convoy_scenario.specs.Scenario.{Link, Message, Scenario, has_own_stamps, is_same_sender, is_timed, may_wait, message_at, no_message, range_between}
use Rattle.convoy_draft.specs.declared.time.Time.{Time}
use Rattle.convoy_draft.specs.declared.time.Time.TheVariants.{Ticks, Real}
use Rattle.convoy_scenario.specs.WellFormed.{IsLink, IsScenario}
use Rattle.convoy_draft.specs.Limits.{greatest_delay}
use Rattle.convoy_packets.specs.declared.packet.Packet.{Packet}
use Rattle.convoy_packets.specs.declared.packet.Packet.TheVariants.{Wait, Multicast, Propose}
use Rattle.convoy_packets.specs.Packets.{is_wait, packets_of, place_of}
use Rattle.convoy_packets.specs.Assignment.{AreWithin, IsAssignment, IsWithin, Schedule, delay_of, sender_of, range_of, ranges_of}
use Rattle.convoy_packets.specs.ScheduleLaws.{is_sent}
use Rattle.convoy_packets.specs.Table.{AreWholeDelays, IsRange, least_of, least_delays, greatest_delays}
use Rattle.convoy_packets.proofs.Listed.{all_travel, length-packets_of-unwaiting, or_none}
use Rattle.convoy_packets.proofs.Places.{stands_where_found}
use Rattle.convoy_packets.proofs.Sent.{found_if_sent}
use Rattle.convoy_packets.proofs.Orders.{fixed_is_order}

pub length-ranges_of : (plan : Scenario) → length (ranges_of plan) ≡ length (packets_of plan)
unfolding ranges_of
length-ranges_of plan = length-map (packets_of plan) (range_of plan)

-- a range of one tick or more, within D
pub record IsWithinDelay (delay : ℕ) (range : ℕ × ℕ) : Type 0 where
  pub low : 1 ≤ range.0
  pub ordered : range.0 ≤ range.1
  pub high : range.1 ≤ delay

abbrev ends : Option Link → ℕ → ℕ × ℕ
ends found delay = option_map_or (λ link. (link.least, link.most)) found (1, delay)

found_within : (groups places delay : ℕ) (p : Link → Bool) (links : List Link) → 1 ≤ delay → AllByRecursion (IsLink groups places delay) links → IsWithinDelay delay (ends (find p links) delay)
found_within groups places delay p [] some all = record { low = omega arith; ordered = some; high = omega arith }
found_within groups places delay p (link ∷ links) some all =
    elim (p link) as (λ b. IsWithinDelay delay (ends (cond b (Some link) (find p links)) delay)) [
      | true ↦ record { low = all.0.low; ordered = all.0.ordered; high = all.0.high }
      | false ↦ found_within groups places delay p links some all.1
    ]

-- what goes from one place to another takes a time within D
between_within : (plan : Scenario) (sender : Sender) (to : ℕ) → IsScenario plan → IsWithinDelay plan.delay (range_between plan sender to)
between_within plan sender to is =
    found_within (length plan.groups) (length plan.places) plan.delay (λ link. is_same_sender sender link.sender && (to == link.to)) plan.links is.delay_low
    (recursion_from_All (IsLink (length plan.groups) (length plan.places) plan.delay) plan.links is.links)

-- .. and within the limits
pub between_lawful : (plan : Scenario) (sender : Sender) (to : ℕ) → IsScenario plan → IsRange (range_between plan sender to)
between_lawful plan sender to is =
    let range = between_within plan sender to is in
    let most = is.delay_high in
    record { ordered = range.ordered; high = omega (arith, range.high) }

-- the range of each packet that travels is within D
pub range_within : (plan : Scenario) (packet : Packet) → IsScenario plan → is_wait packet ≡ false → IsWithinDelay plan.delay (range_of plan packet)
range_within plan (Wait m) is travels = absurd (true≢false travels)
range_within plan (Multicast m g) is travels = between_within plan (sender_of plan (Multicast m g)) g is
range_within plan (Propose m h g) is travels = between_within plan (sender_of plan (Propose m h g)) g is

-- no message waits longer than any may
wait_within : (plan : Scenario) (m : ℕ) → IsScenario plan → (message_at plan m).longest_wait ≤ LONGEST_WAIT
wait_within plan m is = waits plan.multicasts m (λ k l. (is.messages k no_message l).wait) where
  waits : (ms : List Message) (k : ℕ) → ((i : ℕ) → i < length ms → (get_or ms i no_message).longest_wait ≤ LONGEST_WAIT) → (get_or ms k no_message).longest_wait ≤ LONGEST_WAIT
  waits [] k each = omega arith
  waits (m ∷ ms) zero each = each 0 (omega arith)
  waits (m ∷ ms) (suc k) each = waits ms k (λ i l. each (suc i) (omega arith))

-- each packet has a range within the limits
pub range_lawful : (plan : Scenario) (packet : Packet) → IsScenario plan → IsRange (range_of plan packet)
range_lawful plan (Wait m) is = record { ordered = omega arith; high = wait_within plan m is }
range_lawful plan (Multicast m g) is = between_lawful plan (sender_of plan (Multicast m g)) g is
range_lawful plan (Propose m h g) is = between_lawful plan (sender_of plan (Propose m h g)) g is

-- D is within the limit for how time goes
delay_fits : (plan : Scenario) → IsScenario plan → plan.delay ≤ greatest_delay plan.time
delay_fits plan is = by_time plan.time refl where
  by_time : (time : Time) → plan.time ≡ time → plan.delay ≤ greatest_delay time
  by_time Ticks e = is.delay_whole e
  by_time Real e = is.delay_high

-- and so is the range of each packet that travels
range_fits : (plan : Scenario) (packet : Packet) → IsScenario plan → is_wait packet ≡ false → (range_of plan packet).1 ≤ greatest_delay plan.time
range_fits plan packet is travels =
    let range = range_within plan packet is travels in
    let most = delay_fits plan is in
    omega (arith, range.high, most)

-- where time goes in whole ticks, no message waits, and no own stamps take time
untimed : (plan : Scenario) → is_timed plan ≡ false → (plan.time ≡ Ticks) × (list_any may_wait plan.multicasts ≡ false) × (has_own_stamps plan ≡ false)
untimed plan e = by_time plan.time refl where
  by_time : (time : Time) → plan.time ≡ time → (plan.time ≡ Ticks) × (list_any may_wait plan.multicasts ≡ false) × (has_own_stamps plan ≡ false)
  by_time Real is = let f : is_timed plan ≡ true = rw is refl in absurd (true≢false (sym f ∙ e))
  by_time Ticks is =
      let none : (list_any may_wait plan.multicasts || has_own_stamps plan || nat_lt 0 (length plan.places)) ≡ false = rw is at e in
      let all = or_none (list_any may_wait plan.multicasts || has_own_stamps plan) (nat_lt 0 (length plan.places)) none in
      let each = or_none (list_any may_wait plan.multicasts) (has_own_stamps plan) all.0 in
      (is, each.0, each.1)

pub ranges_whole : (plan : Scenario) → IsScenario plan → is_timed plan ≡ false → AreWholeDelays (ranges_of plan)
unfolding ranges_of
ranges_whole plan is e =
    let none = untimed plan e in
    let travel = all_travel plan none.1 in
    let few = length-packets_of-unwaiting plan is none.1 none.2 in
    let long = length-ranges_of plan in
    record {
      few = omega arith;
      low = All-map (λ range. 1 ≤ range.0) (range_of plan) (packets_of plan) (λ k d l. (range_within plan (get_or (packets_of plan) k d) is (travel k d l)).low);
      high = All-map (λ range. range.1 ≤ GREATEST_WHOLE_DELAY) (range_of plan) (packets_of plan) (λ k d l. whole_fits (get_or (packets_of plan) k d) none.0 (travel k d l));
    } where
      whole_fits : (packet : Packet) → plan.time ≡ Ticks → is_wait packet ≡ false → (range_of plan packet).1 ≤ GREATEST_WHOLE_DELAY
      whole_fits packet ticks travels = rw ticks at (range_fits plan packet is travels)

pub AreWithin-least : (ranges : List (ℕ × ℕ)) → All IsRange ranges → AreWithin ranges (least_delays ranges)
AreWithin-least [] h = tt
AreWithin-least (range ∷ ranges) h =
    let first = All-head IsRange range ranges h in
    ((omega arith, first.ordered), AreWithin-least ranges (All-tail IsRange range ranges h))

pub AreWithin-greatest : (ranges : List (ℕ × ℕ)) → All IsRange ranges → AreWithin ranges (greatest_delays ranges)
AreWithin-greatest [] h = tt
AreWithin-greatest (range ∷ ranges) h =
    let first = All-head IsRange range ranges h in
    ((first.ordered, omega arith), AreWithin-greatest ranges (All-tail IsRange range ranges h))

pub length-within : (ranges : List (ℕ × ℕ)) (delays : List ℕ) → AreWithin ranges delays → length ranges ≡ length delays
length-within [] [] h = refl
length-within [] (y ∷ ys) h = absurd h
length-within (x ∷ xs) [] h = absurd h
length-within (x ∷ xs) (y ∷ ys) h = ap suc (length-within xs ys h.1)

within_at : (ranges : List (ℕ × ℕ)) (delays : List ℕ) (i : ℕ) (d : ℕ × ℕ) → AreWithin ranges delays → i < length ranges → IsWithin (get_or ranges i d) (get_or delays i 0)
within_at [] ys i d h l = absurd (omega arith)
within_at (x ∷ xs) [] i d h l = absurd h
within_at (x ∷ xs) (y ∷ ys) zero d h l = h.0
within_at (x ∷ xs) (y ∷ ys) (suc i) d h l = within_at xs ys i d h.1 (omega arith)

pub AreWithin-set : (ranges : List (ℕ × ℕ)) (delays : List ℕ) (i delay : ℕ) → i < length delays → AreWithin ranges delays → IfSome (slice_get ranges i) (λ range. IsWithin range delay) → AreWithin ranges (slice_set delays i delay)
AreWithin-set [] [] i delay below h here = absurd (omega arith)
AreWithin-set [] (y ∷ ys) i delay below h here = absurd h
AreWithin-set (x ∷ xs) [] i delay below h here = absurd h
AreWithin-set (x ∷ xs) (y ∷ ys) zero delay below h here = (here, h.1)
AreWithin-set (x ∷ xs) (y ∷ ys) (suc i) delay below h here = (h.0, AreWithin-set xs ys i delay (omega arith) h.1 here)

pub length-assignment : (plan : Scenario) (schedule : Schedule) → IsAssignment plan schedule → length schedule.delays ≡ length (packets_of plan)
length-assignment plan schedule is = sym (length-within (ranges_of plan) schedule.delays is.delays) ∙ length-ranges_of plan

pub delay_at_place : (plan : Scenario) (schedule : Schedule) (p : Packet) (i : ℕ) → place_of p (packets_of plan) ≡ Some i → delay_of plan schedule p ≡ get_or schedule.delays i 0
unfolding delay_of
delay_at_place plan schedule p i found = rw found refl

pub no_delay : (plan : Scenario) (schedule : Schedule) (p : Packet) → place_of p (packets_of plan) ≡ None → delay_of plan schedule p ≡ 0
unfolding delay_of
no_delay plan schedule p none = rw none refl

within_at_place : (plan : Scenario) (schedule : Schedule) (p : Packet) (i : ℕ) → IsAssignment plan schedule → place_of p (packets_of plan) ≡ Some i → IsWithin (range_of plan p) (delay_of plan schedule p)
unfolding ranges_of
within_at_place plan schedule p i is found =
    let stands = stands_where_found (packets_of plan) i p found in
    let here = slice_get_within (packets_of plan) i p stands in
    let same : get_or (packets_of plan) i p ≡ p = same_Some (get_or (packets_of plan) i p) p (sym (slice_get-get_or (packets_of plan) i p here) ∙ stands) in
    let long = length-ranges_of plan in
    let within = within_at (ranges_of plan) schedule.delays i (range_of plan p) is.delays (omega arith) in
    rw (delay_at_place plan schedule p i found) (rw (get_or-map (range_of plan) (packets_of plan) i p (range_of plan p) here, same) at within)

module _ (plan : Scenario) (schedule : Schedule) (p : Packet) where
  pub within_if_sent : IsAssignment plan schedule → IsTrue (is_sent plan p) → IsWithin (range_of plan p) (delay_of plan schedule p)
  within_if_sent is sent = by_place (place_of p (packets_of plan)) refl where
    by_place : (o : Option ℕ) → place_of p (packets_of plan) ≡ o → IsWithin (range_of plan p) (delay_of plan schedule p)
    by_place None e = absurd (true≢false (sym sent ∙ sym (found_if_sent plan p) ∙ ap is_some e))
    by_place (Some i) e = within_at_place plan schedule p i is e

  pub no_time_if_unsent : IsTrue (not (is_sent plan p)) → delay_of plan schedule p ≡ 0
  no_time_if_unsent unsent = by_place (place_of p (packets_of plan)) refl where
    by_place : (o : Option ℕ) → place_of p (packets_of plan) ≡ o → delay_of plan schedule p ≡ 0
    by_place None e = no_delay plan schedule p e
    by_place (Some i) e = absurd (true≢false (sym (ap is_some e) ∙ found_if_sent plan p ∙ not-true (is_sent plan p) unsent))

  pub at_most : IsScenario plan → IsAssignment plan schedule → is_wait p ≡ false → delay_of plan schedule p ≤ plan.delay
  at_most formed is travels = by_place (place_of p (packets_of plan)) refl where
    by_place : (o : Option ℕ) → place_of p (packets_of plan) ≡ o → delay_of plan schedule p ≤ plan.delay
    by_place None e = rw (no_delay plan schedule p e) (omega arith)
    by_place (Some i) e = let within = (within_at_place plan schedule p i is e).1 in let most = (range_within plan p formed travels).high in omega arith

pub wait_at_most : (plan : Scenario) (schedule : Schedule) (m : ℕ) → IsAssignment plan schedule → delay_of plan schedule (Wait m) ≤ (message_at plan m).longest_wait
wait_at_most plan schedule m is = by_place (place_of (Wait m) (packets_of plan)) refl where
  by_place : (o : Option ℕ) → place_of (Wait m) (packets_of plan) ≡ o → delay_of plan schedule (Wait m) ≤ (message_at plan m).longest_wait
  by_place None e = rw (no_delay plan schedule (Wait m) e) (omega arith)
  by_place (Some i) e = (within_at_place plan schedule (Wait m) i is e).1

least_within : (plan : Scenario) → IsScenario plan → AreWithin (ranges_of plan) (least_delays (ranges_of plan))
unfolding ranges_of
least_within plan is =
    AreWithin-least (ranges_of plan)
    (All-map IsRange (range_of plan) (packets_of plan)
    (λ k d l. range_lawful plan (get_or (packets_of plan) k d) is))

pub least_assignment : (plan : Scenario) → IsScenario plan → IsAssignment plan (least_of (ranges_of plan))
least_assignment plan is = record { delays = least_within plan is; order = fixed_is_order plan }
