-- A run in finer ticks with each arrival rounded up to whole ticks: the delays that it then has, and its arrivals and commits.
use Rattle.std.proofs.Common.{◌≡◌, ℕ, ◌+◌, ◌-◌, ◌*◌, ◌<◌, ◌≤◌, max, true, false, not, Option, Some, None, get_or, map, fold, refl, sym, ap, ◌∙◌, arith}
use Rattle.std.proofs.lemmas.Bool.{ltb-false}
use Rattle.std.proofs.lemmas.List.{get_or-map}
use Rattle.std.proofs.lemmas.Option.{same_Some, slice_get-get_or, slice_get_within}
use Rattle.convoy_scenario.specs.Scenario.{Scenario, message_at}
use Rattle.convoy_packets.specs.declared.packet.Packet.{Packet}
use Rattle.convoy_packets.specs.declared.packet.Packet.TheVariants.{Wait, Multicast, Propose}
use Rattle.convoy_packets.specs.Packets.{packets_of, place_of, is_wait}
use Rattle.convoy_packets.specs.Order.{Order}
use Rattle.convoy_packets.specs.Assignment.{Schedule, AreWithin, IsAssignment, IsWithin, delay_of, range_of, ranges_of}
use Rattle.convoy_packets.specs.ScheduleLaws.{is_sent}
use Rattle.convoy_sim.specs.Times.{issue, arrive, settle, propose_arrive}
use Rattle.convoy_laws.specs.FinerTicks.{IsFiner}
use Rattle.convoy_laws.proofs.Offset.{up_from, from_rises, from_least, from_times, from_span, from_greatest}
use Rattle.convoy_origin.proofs.Lists.{all_zip_made}
use Rattle.convoy_laws.proofs.Used.{Used}
use Rattle.convoy_origin.proofs.PacketDelays.{delay_at_place, no_delay, sent_of_in, unsent_if_nowhere}
use Rattle.convoy_laws.proofs.SameParts.{same_message, same_multicast, same_propose, fixed_too}

-- when a packet is sent; a wait begins at the first tick at which its message may be issued
abbrev sent_at : Scenario → Schedule → Packet → ℕ
sent_at fine schedule (Wait m) = (message_at fine m).at
sent_at fine schedule (Multicast m g) = issue fine schedule m
sent_at fine schedule (Propose m h g) = arrive fine schedule m h

-- when it arrives, rounded up to whole ticks
abbrev whole_end : ℕ → ℕ → Scenario → Schedule → Packet → ℕ
whole_end k o fine schedule p = up_from k o (sent_at fine schedule p + delay_of fine schedule p)

-- when it is sent in whole ticks: at the time rounded up, but a wait begins where the scenario says so
abbrev whole_start : ℕ → ℕ → Scenario → Scenario → Schedule → Packet → ℕ
whole_start k o plan fine schedule (Wait m) = (message_at plan m).at
whole_start k o plan fine schedule (Multicast m g) = up_from k o (sent_at fine schedule (Multicast m g))
whole_start k o plan fine schedule (Propose m h g) = up_from k o (sent_at fine schedule (Propose m h g))

-- how long it takes between the two
abbrev whole_delay : ℕ → ℕ → Scenario → Scenario → Schedule → Packet → ℕ
whole_delay k o plan fine schedule p = whole_end k o fine schedule p - whole_start k o plan fine schedule p

-- the schedule of these delays
abbrev pub whole_in : ℕ → ℕ → Scenario → Scenario → Schedule → Order → Schedule
whole_in k o plan fine schedule order = record { delays = map (whole_delay k o plan fine schedule) (packets_of plan); order = order }

module _ (used : Used) (k : ℕ) (plan fine : Scenario) (is : IsFiner k plan fine) (o : ℕ) (less : o < k) (schedule : Schedule) where
  starts_low : (p : Packet) → whole_start k o plan fine schedule p ≤ up_from k o (sent_at fine schedule p)
  starts_low (Wait m) =
      let rises = from_rises k is.some o less (k * (message_at plan m).at) (message_at fine m).at (same_message k plan fine is m).at in
      let same = from_times k is.some o less (message_at plan m).at in
      omega arith
  starts_low (Multicast m g) = omega arith
  starts_low (Propose m h g) = omega arith

  -- it arrives no sooner than it is sent
  starts_first : (p : Packet) → whole_start k o plan fine schedule p ≤ whole_end k o fine schedule p
  starts_first p =
      let start : ℕ = sent_at fine schedule p in
      let rises = from_rises k is.some o less start (start + delay_of fine schedule p) (omega arith) in
      let low = starts_low p in
      omega arith

  -- ---- what is no packet takes no time
  no_span : (p : Packet) → delay_of fine schedule p ≡ 0 → up_from k o (sent_at fine schedule p + delay_of fine schedule p) - up_from k o (sent_at fine schedule p) ≡ 0
  no_span p none =
      let start : ℕ = sent_at fine schedule p in
      let same : start + delay_of fine schedule p ≡ start = omega arith in
      let ends : up_from k o (start + delay_of fine schedule p) ≡ up_from k o start = ap (up_from k o) same in
      omega arith

  no_wait : (m : ℕ) → (message_at plan m).longest_wait ≡ 0 → whole_delay k o plan fine schedule (Wait m) ≡ 0
  no_wait m fixed =
      let too = fixed_too k plan fine is m fixed in
      let issued : issue fine schedule m ≡ k * (message_at plan m).at = used.at_tick fine schedule m too.1 ∙ too.0 in
      let end : whole_end k o fine schedule (Wait m) ≡ (message_at plan m).at = ap (up_from k o) issued ∙ from_times k is.some o less (message_at plan m).at in
      omega arith

  unsent : (p : Packet) → is_sent plan p ≡ false → whole_delay k o plan fine schedule p ≡ 0
  unsent (Wait m) none = no_wait m (omega (arith, ltb-false 0 (message_at plan m).longest_wait none))
  unsent (Multicast m g) none = no_span (Multicast m g) (used.unsent fine schedule (Multicast m g) (ap not (same_multicast k plan fine is m g ∙ none)))
  unsent (Propose m h g) none = no_span (Propose m h g) (used.unsent fine schedule (Propose m h g) (ap not (same_propose k plan fine is m h g ∙ none)))

  -- ---- the times in whole ticks
  module _ (order : Order) where
    abbrev whole : Schedule
    whole = whole_in k o plan fine schedule order

    delay_is : (p : Packet) → delay_of plan whole p ≡ whole_delay k o plan fine schedule p
    delay_is p = by_place (place_of p (packets_of plan)) refl where
      by_place : (found : Option ℕ) → place_of p (packets_of plan) ≡ found → delay_of plan whole p ≡ whole_delay k o plan fine schedule p
      by_place None e = no_delay plan whole p e ∙ sym (unsent p (unsent_if_nowhere used.sent plan p e))
      by_place (Some i) e =
          let stands = used.places plan i p e in
          let here = slice_get_within (packets_of plan) i p stands in
          let same : get_or (packets_of plan) i p ≡ p = same_Some (get_or (packets_of plan) i p) p (sym (slice_get-get_or (packets_of plan) i p here) ∙ stands) in
          delay_at_place plan whole p i e
          ∙ get_or-map (whole_delay k o plan fine schedule) (packets_of plan) i p 0 here
          ∙ ap (whole_delay k o plan fine schedule) same

    -- a packet that is sent at its whole tick arrives at its time rounded up
    ends : (p : Packet) → whole_start k o plan fine schedule p + delay_of plan whole p ≡ whole_end k o fine schedule p
    ends p =
        let first = starts_first p in
        let delay = delay_is p in
        omega arith

    pub issues : (m : ℕ) → issue plan whole m ≡ up_from k o (issue fine schedule m)
    issues m = ends (Wait m)

    pub arrives : (m g : ℕ) → arrive plan whole m g ≡ up_from k o (arrive fine schedule m g)
    unfolding arrive
    arrives m g =
        let issue = issues m in
        let end = ends (Multicast m g) in
        omega arith

    proposes : (m g h : ℕ) → propose_arrive plan whole m g h ≡ up_from k o (propose_arrive fine schedule m g h)
    proposes m g h =
        let start = arrives m h in
        let end = ends (Propose m h g) in
        omega arith

    pub settles : (m g : ℕ) → settle plan whole m g ≡ up_from k o (settle fine schedule m g)
    unfolding settle
    settles m g =
        from_greatest k is.some o less (propose_arrive plan whole m g) (propose_arrive fine schedule m g) (message_at plan m).destinations
        (λ h i. proposes m g h)
        ∙ ap (λ hs. up_from k o (fold max 0 (map (propose_arrive fine schedule m g) hs))) (sym (same_message k plan fine is m).destinations)

  -- ---- the delays are in their ranges
  module _ (given : IsAssignment fine schedule) where
    wait_within : (m : ℕ) → IsWithin (range_of plan (Wait m)) (whole_delay k o plan fine schedule (Wait m))
    wait_within m =
        let issued = used.in_wait fine schedule given m in
        let until = (same_message k plan fine is m).until in
        let last = from_least k is.some o less (issue fine schedule m) ((message_at plan m).at + (message_at plan m).longest_wait) (omega arith) in
        (omega arith, omega arith)

    travel_within : (p : Packet) → is_sent plan p ≡ true → is_sent fine p ≡ true → is_wait p ≡ false
        → IsWithin (range_of plan p) (up_from k o (sent_at fine schedule p + delay_of fine schedule p) - up_from k o (sent_at fine schedule p))
    travel_within p sent sent_too travels =
        let delay : ℕ = delay_of fine schedule p in
        let within = used.within fine schedule p given sent_too in
        let range = is.ranges p sent travels in
        let first = within.0 in
        let last = within.1 in
        let begins = range.0 in
        let ends = range.1 in
        let low : k * (range_of plan p).0 ≤ delay = omega arith in
        let high : delay ≤ k * (range_of plan p).1 = omega arith in
        let span = from_span k is.some o less (sent_at fine schedule p) delay (range_of plan p).0 (range_of plan p).1 low high in
        let sooner = span.0 in
        let later = span.1 in
        (omega arith, omega arith)

    delay_within : (p : Packet) → is_sent plan p ≡ true → IsWithin (range_of plan p) (whole_delay k o plan fine schedule p)
    delay_within (Wait m) sent = wait_within m
    delay_within (Multicast m g) sent = travel_within (Multicast m g) sent (same_multicast k plan fine is m g ∙ sent) refl
    delay_within (Propose m h g) sent = travel_within (Propose m h g) sent (same_propose k plan fine is m h g ∙ sent) refl

    pub delays_within : (order : Order) → AreWithin (ranges_of plan) (whole_in k o plan fine schedule order).delays
    unfolding ranges_of
    delays_within order =
        all_zip_made IsWithin (range_of plan) (whole_delay k o plan fine schedule) (packets_of plan) (λ p i. delay_within p (sent_of_in used.sent plan p i))
