-- The schedule that belongs to one of the other scenario: each packet takes as long as it does there, and ties fall as they do there.
use Rattle.std.proofs.Common.{◌≡◌, ℕ, ◌+◌, ◌*◌, ◌/◌, ◌%◌, ◌<◌, ◌≤◌, true, false, if◌then◌else◌, inl, inr, List, length, get_or, map, Option, Some, None, not, refl, sym, ap, ap₂, subst, ◌∙◌, arith}
use Rattle.std.specs.List.{range_with_len}
use Rattle.std.specs.Option.{is_some}
use Rattle.std.proofs.lemmas.Bool.{cases_Bool, cases_lt, cond-true, cond-false}
use Rattle.std.proofs.lemmas.List.{get_or-map, get_or_past}
use Rattle.std.proofs.lemmas.List.Elements.{All-map}
use Rattle.std.proofs.lemmas.List.FromFn.{length-map-range_with_len, get_or-map-range_with_len}
use Rattle.std.proofs.lemmas.Option.{same_Some, slice_get-get_or, slice_get_within}
use Rattle.convoy_draft.specs.declared.time.Time.{Time}
use Rattle.convoy_draft.specs.declared.time.Time.TheVariants.{Ticks, Real}
use Rattle.convoy_scenario.specs.Scenario.{Scenario, GoesTo, message_at, is_addressed, no_message}
use Rattle.convoy_scenario.specs.WellFormed.{IsScenario}
use Rattle.convoy_packets.specs.declared.order.TheConstants.{GREATEST_RANK}
use Rattle.convoy_packets.specs.declared.packet.Packet.{Packet}
use Rattle.convoy_packets.specs.Packets.{is_packet, packets_of, place_of}
use Rattle.convoy_packets.specs.Order.{Order, IsOrder, AreRanks, no_order, place, rank_at}
use Rattle.convoy_packets.specs.Assignment.{Schedule, AreWithin, IsAssignment, IsWithin, delay_of, range_of, ranges_of}
use Rattle.convoy_packets.specs.ScheduleLaws.{PacketsAreThoseSent, is_sent}
use Rattle.convoy_sim.proofs.Membership.{IsIn, all-in}
use Rattle.convoy_sim.proofs.Addressed.{in_of_goes, number_of_goes}
use Rattle.convoy_sim.specs.Moments.{rank_in}
use Rattle.convoy_packets.proofs.Places.{is_packet_itself}
use Rattle.convoy_packets.proofs.Ranges.{delay_at_place, no_delay}
use Rattle.convoy_orders.specs.Renumbered.{IsRenumbered}
use Rattle.convoy_orders.proofs.Used.{Packets}
use Rattle.convoy_orders.proofs.Lists.{all_zip_made, position_in}
use Rattle.convoy_orders.proofs.Renumbering.{renumbered_packet}
use Rattle.convoy_orders.proofs.SameParts.{same_range, same_sent}

-- the delay of the packet in the other scenario
abbrev delay_there : (ℕ → ℕ) → Scenario → Schedule → Packet → ℕ
delay_there renumber other run p = delay_of other run (renumbered_packet renumber p)

-- the rank at a place of the table of the other scenario's ranks
abbrev entry_of : (ℕ → ℕ) → Scenario → List ℕ → ℕ → ℕ
entry_of renumber plan ranks i = if is_addressed (message_at plan (i / 8)) (i % 8) then rank_at ranks (i / 8) (renumber (i % 8)) else 0

abbrev table_of : (ℕ → ℕ) → Scenario → List ℕ → List ℕ
table_of renumber plan ranks = map (entry_of renumber plan ranks) (range_with_len 0 128)

-- the order of ties; in whole ticks it is fixed
abbrev order_in : Time → (ℕ → ℕ) → Scenario → Order → Order
order_in Ticks renumber plan order = no_order
order_in Real renumber plan order = record { arrivals = table_of renumber plan order.arrivals; commits = table_of renumber plan order.commits }

abbrev pub run_here : (ℕ → ℕ) → Scenario → Scenario → Schedule → Schedule
run_here renumber plan other run = record {
  delays = map (delay_there renumber other run) (packets_of plan);
  order = order_in plan.time renumber plan run.order;
}

-- ---- tables of ranks
rank_low : (ranks : List ℕ) (m g : ℕ) → ((i d : ℕ) → i < length ranks → get_or ranks i d ≤ GREATEST_RANK) → rank_at ranks m g ≤ GREATEST_RANK
rank_low ranks m g small = elim (cases_lt (place m g) (length ranks)) [
  | inl l ↦ small (place m g) 0 l
  | inr l ↦ let past : rank_at ranks m g ≡ 0 = get_or_past ranks (place m g) 0 l in omega arith
]

table_at : (renumber : ℕ → ℕ) (plan : Scenario) (ranks : List ℕ) (m g : ℕ) → m < 16 → g < 8
    → rank_at (table_of renumber plan ranks) m g ≡ (if is_addressed (message_at plan m) g then rank_at ranks m (renumber g) else 0)
table_at renumber plan ranks m g few below =
    let message : (m * 8 + g) / 8 ≡ m = omega arith in
    let group : (m * 8 + g) % 8 ≡ g = omega arith in
    get_or-map-range_with_len (entry_of renumber plan ranks) 0 128 (m * 8 + g) (m * 8 + g) 0 (omega arith) (omega arith)
    ∙ ap₂ (λ (n h : ℕ). if is_addressed (message_at plan n) h then rank_at ranks n (renumber h) else 0) message group

are_ranks : (renumber : ℕ → ℕ) (plan other : Scenario) (ranks : List ℕ) → AreRanks other ranks → AreRanks plan (table_of renumber plan ranks)
are_ranks renumber plan other ranks are = record {
  long = length-map-range_with_len (entry_of renumber plan ranks) 0 128;
  small = All-map (λ rank. rank ≤ GREATEST_RANK) (entry_of renumber plan ranks) (range_with_len 0 128) (λ i d l. low (get_or (range_with_len 0 128) i d));
  nowhere = λ m g l below elsewhere. table_at renumber plan ranks m g l below ∙ cond-false _ _ _ elsewhere;
} where
  low : (i : ℕ) → entry_of renumber plan ranks i ≤ GREATEST_RANK
  low i = elim (cases_Bool (is_addressed (message_at plan (i / 8)) (i % 8))) [
    | inl goes ↦
        let here : entry_of renumber plan ranks i ≡ rank_at ranks (i / 8) (renumber (i % 8)) = cond-true _ _ _ goes in
        let below = rank_low ranks (i / 8) (renumber (i % 8)) are.small in
        omega arith
    | inr elsewhere ↦
        let here : entry_of renumber plan ranks i ≡ 0 = cond-false _ _ _ elsewhere in
        omega arith
  ]

-- a group has one of the first eight numbers
group_below : (plan : Scenario) → IsScenario plan → (m g : ℕ) → GoesTo plan m g → g < 8
group_below plan well m g goes =
    let known = (well.messages m no_message (number_of_goes plan m g goes)).known in
    let here = all-in (λ h. h < length plan.groups) g (message_at plan m).destinations known (in_of_goes plan m g goes) in
    let most = well.groups_high in
    omega arith

rank_here : (renumber : ℕ → ℕ) (plan : Scenario) → IsScenario plan → (ranks : List ℕ) (m g : ℕ) → GoesTo plan m g
    → rank_at (table_of renumber plan ranks) m g ≡ rank_at ranks m (renumber g)
rank_here renumber plan well ranks m g goes =
    let number = number_of_goes plan m g goes in
    let few = well.multicasts_high in
    table_at renumber plan ranks m g (omega arith) (group_below plan well m g goes) ∙ cond-true _ _ _ goes

module _ (renumber : ℕ → ℕ) (plan : Scenario) (well : IsScenario plan) (order : Order) where
  pub arrival_rank_in : (t : Time) (m g : ℕ) → GoesTo plan m g
      → rank_in t (rank_at order.arrivals m (renumber g)) ≡ rank_in t (rank_at (order_in t renumber plan order).arrivals m g)
  arrival_rank_in Ticks m g goes = refl
  arrival_rank_in Real m g goes = sym (rank_here renumber plan well order.arrivals m g goes)

  pub commit_rank_in : (t : Time) (m g : ℕ) → GoesTo plan m g
      → rank_in t (rank_at order.commits m (renumber g)) ≡ rank_in t (rank_at (order_in t renumber plan order).commits m g)
  commit_rank_in Ticks m g goes = refl
  commit_rank_in Real m g goes = sym (rank_here renumber plan well order.commits m g goes)

-- ---- packets of the list
sent_of_in : PacketsAreThoseSent → (plan : Scenario) (p : Packet) → IsIn p (packets_of plan) → is_sent plan p ≡ true
sent_of_in sent plan p i = sym (sent plan p) ∙ ap is_some (position_in (is_packet p) p (packets_of plan) i (is_packet_itself p))

module _ (used : Packets) (renumber back : ℕ → ℕ) (plan other : Scenario) (is : IsRenumbered renumber back plan other) (run : Schedule) where
  is_order : IsOrder other run.order → IsOrder plan (order_in plan.time renumber plan run.order)
  is_order given = by_time plan.time refl where
    by_time : (t : Time) → plan.time ≡ t → IsOrder plan (order_in t renumber plan run.order)
    by_time Ticks e = used.fixed plan
    by_time Real e = record {
      arrivals = are_ranks renumber plan other run.order.arrivals given.arrivals;
      commits = are_ranks renumber plan other run.order.commits given.commits;
      fixed = λ ticks. absurd (let never : Real ≡ Ticks = sym e ∙ ticks in cc);
    }

  unsent_there : (p : Packet) → is_sent plan p ≡ false → delay_there renumber other run p ≡ 0
  unsent_there p none = used.unsent other run (renumbered_packet renumber p) (ap not (same_sent renumber back plan other is p ∙ none))

  pub delay_is : (p : Packet) → delay_of plan (run_here renumber plan other run) p ≡ delay_of other run (renumbered_packet renumber p)
  delay_is p = by_place (place_of p (packets_of plan)) refl where
    by_place : (o : Option ℕ) → place_of p (packets_of plan) ≡ o → delay_of plan (run_here renumber plan other run) p ≡ delay_of other run (renumbered_packet renumber p)
    by_place None e = no_delay plan (run_here renumber plan other run) p e ∙ sym (unsent_there p (sym (used.sent plan p) ∙ ap is_some e))
    by_place (Some i) e =
        let stands = used.places plan i p e in
        let here = slice_get_within (packets_of plan) i p stands in
        let same : get_or (packets_of plan) i p ≡ p = same_Some (get_or (packets_of plan) i p) p (sym (slice_get-get_or (packets_of plan) i p here) ∙ stands) in
        delay_at_place plan (run_here renumber plan other run) p i e
        ∙ get_or-map (delay_there renumber other run) (packets_of plan) i p 0 here
        ∙ ap (delay_there renumber other run) same

  delay_within : IsAssignment other run → (p : Packet) → is_sent plan p ≡ true → IsWithin (range_of plan p) (delay_there renumber other run p)
  delay_within given p sent =
      subst (λ range. IsWithin range (delay_there renumber other run p)) (same_range renumber back plan other is p)
      (used.within other run (renumbered_packet renumber p) given (same_sent renumber back plan other is p ∙ sent))

  delays_within : IsAssignment other run → AreWithin (ranges_of plan) (run_here renumber plan other run).delays
  unfolding ranges_of
  delays_within given =
      all_zip_made IsWithin (range_of plan) (delay_there renumber other run) (packets_of plan) (λ p i. delay_within given p (sent_of_in used.sent plan p i))

  pub is_assignment : IsAssignment other run → IsAssignment plan (run_here renumber plan other run)
  is_assignment given = record { delays = delays_within given; order = is_order given.order }
