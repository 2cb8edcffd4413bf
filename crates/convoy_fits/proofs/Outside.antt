-- Why what is told outside of a window or of a range is done by no run.
use Rattle.std.proofs.Common.{◌≡◌, ℕ, zero, suc, ◌+◌, ◌*◌, ◌≤◌, ◌==◌, true, false, ◌&&◌, List, [], ◌∷◌, get_or, leb-true, Option, Some, refl, ap, sym, ◌∙◌, inl, inr, arith}
use Rattle.std.specs.Prelude.{◌-◌, Contains, map, nat_le}
use Rattle.std.specs.List.{AllZip, list_all}
use Rattle.std.proofs.lemmas.Bool.{and_parts, cases_Bool, eqb-true, false≢true}
use Rattle.std.proofs.lemmas.List.Elements.{All-contains}
use Rattle.convoy_scenario.specs.Scenario.{Message, Scenario, message_at, no_message, window_of}
use Rattle.convoy_packets.specs.declared.packet.Packet.{Packet}
use Rattle.convoy_packets.specs.declared.packet.Packet.TheVariants.{Wait, Multicast, Propose}
use Rattle.convoy_packets.specs.Packets.{is_wait}
use Rattle.convoy_packets.specs.Assignment.{Schedule, delay_of}
use Rattle.convoy_packets.specs.ScheduleLaws.{DelaysAreWithin, UnsentTakesNoTime, WaitsAreAtMost, is_sent}
use Rattle.convoy_sim.specs.Times.{arrive, issue}
use Rattle.convoy_traces.specs.declared.told.Event.{Event}
use Rattle.convoy_traces.specs.declared.told.Event.TheVariants.{Issue, Arrival, Proposal, Commit, Delivery}
use Rattle.convoy_traces.specs.declared.told.Told.{Told}
use Rattle.convoy_traces.specs.Told.{is_same_event}
use Rattle.convoy_traces.specs.Traces.{Trace}
use Rattle.convoy_laws.specs.FinerTicks.{IsFinerMessage}
use Rattle.convoy_fits.specs.declared.departure.Departure.{Departure}
use Rattle.convoy_fits.specs.declared.departure.Departure.TheVariants as departures
use Rattle.convoy_fits.specs.Runs.{IsDone, moment_of}
use Rattle.convoy_fits.specs.declared.teller.Teller.{Teller}
use Rattle.convoy_fits.specs.declared.teller.Teller.TheVariants as tellers
use Rattle.convoy_fits.specs.Skews.{corrected, is_same_teller, is_since, teller_of}
use Rattle.convoy_fits.specs.Fits.{Fits, FitsWithin, time_told}
use Rattle.convoy_fits.specs.Departures.{IsNearlyAfter, IsOutside, comes_as, explained, fine_range, in_fine_ticks, message_of, sent_by}
use Rattle.convoy_fits.proofs.Fine.{sent_too}

same_event : (a b : Event) → is_same_event a b ≡ true → a ≡ b
same_event Issue Issue e = refl
same_event (Arrival g) (Arrival h) e = ap Arrival (eqb-true g h e)
same_event (Proposal g i) (Proposal h j) e =
    let p = and_parts (g == h) (i == j) e in
    let to : g ≡ h = eqb-true g h p.0 in
    let from : i ≡ j = eqb-true i j p.1 in
    cc
same_event (Commit g) (Commit h) e = ap Commit (eqb-true g h e)
same_event (Delivery g) (Delivery h) e = ap Delivery (eqb-true g h e)
same_event Issue (Arrival h) e = absurd (false≢true e)
same_event Issue (Proposal h j) e = absurd (false≢true e)
same_event Issue (Commit h) e = absurd (false≢true e)
same_event Issue (Delivery h) e = absurd (false≢true e)
same_event (Arrival g) Issue e = absurd (false≢true e)
same_event (Arrival g) (Proposal h j) e = absurd (false≢true e)
same_event (Arrival g) (Commit h) e = absurd (false≢true e)
same_event (Arrival g) (Delivery h) e = absurd (false≢true e)
same_event (Proposal g i) Issue e = absurd (false≢true e)
same_event (Proposal g i) (Arrival h) e = absurd (false≢true e)
same_event (Proposal g i) (Commit h) e = absurd (false≢true e)
same_event (Proposal g i) (Delivery h) e = absurd (false≢true e)
same_event (Commit g) Issue e = absurd (false≢true e)
same_event (Commit g) (Arrival h) e = absurd (false≢true e)
same_event (Commit g) (Proposal h j) e = absurd (false≢true e)
same_event (Commit g) (Delivery h) e = absurd (false≢true e)
same_event (Delivery g) Issue e = absurd (false≢true e)
same_event (Delivery g) (Arrival h) e = absurd (false≢true e)
same_event (Delivery g) (Proposal h j) e = absurd (false≢true e)
same_event (Delivery g) (Commit h) e = absurd (false≢true e)

-- what is told of an event at a time
record IsTelling (told : List Told) (m : ℕ) (event : Event) (time : ℕ) : Type 0 where
  one : Told
  listed : Contains told one
  message : one.message ≡ m
  is : one.event ≡ event
  at : one.time ≡ time

telling : (told : List Told) (m : ℕ) (event : Event) (time : ℕ) → time_told told m event ≡ Some time → IsTelling told m event time
telling [] m event time e = absurd cc
telling (x ∷ told) m event time e = elim (cases_Bool ((x.message == m) && is_same_event x.event event)) [
  | inl is ↦
      let p = and_parts (x.message == m) (is_same_event x.event event) is in
      let h = rw is at e in
      record { one = x; listed = (0, omega arith, refl); message = eqb-true x.message m p.0; is = same_event x.event event p.1; at = cc h }
  | inr isnt ↦
      let rest = telling told m event time (rw isnt at e) in
      record { one = rest.one; listed = (suc rest.listed.0, (let h = rest.listed.1 in omega arith), rest.listed.2); message = rest.message; is = rest.is; at = rest.at }
]

-- the window of a message in fine ticks is within the one that it has in ticks
window_at : (factor : ℕ) (ms fs : List Message) (m : ℕ) → AllZip (IsFinerMessage factor) ms fs
    → (factor * (get_or ms m no_message).at ≤ (get_or fs m no_message).at)
    × ((get_or fs m no_message).at + (get_or fs m no_message).longest_wait ≤ factor * ((get_or ms m no_message).at + (get_or ms m no_message).longest_wait))
window_at factor [] [] m h = (omega arith, omega arith)
window_at factor [] (f ∷ fs) m h = absurd h
window_at factor (x ∷ ms) [] m h = absurd h
window_at factor (x ∷ ms) (f ∷ fs) zero h = (h.0.at, h.0.until)
window_at factor (x ∷ ms) (f ∷ fs) (suc m) h = window_at factor ms fs m h.1

bounds : (low high at longest delay skew lag time first last : ℕ) → at + delay + skew ≡ time + lag → lag ≤ 2 * skew → first ≡ low → last ≡ high → low ≤ at
    → at + longest ≤ high → delay ≤ longest → (first ≤ time + skew) × (time ≤ last + skew)
bounds low high at longest delay skew lag time first last is small least most after before short = (omega arith, omega arith)

through : (a b c : ℕ) → a ≤ b → b ≤ c → a ≤ c
through a b c before after = omega arith

at_once : (slack sent came least most : ℕ) → sent ≡ came → least ≡ 0 → IsNearlyAfter slack sent (least, most) came
at_once slack sent came least most is none = (omega arith, omega arith)

-- what a packet takes by clocks that are right, it takes nearly by those by which it is told
travelled : (range : ℕ × ℕ) (since delay came_at skew sent came lag other slack least most : ℕ) → since + delay ≡ came_at → since + skew ≡ sent + lag
    → came_at + skew ≡ came + other → lag ≤ other + slack → other ≤ lag + slack → (least, most) ≡ range → (range.0 ≤ delay) × (delay ≤ range.1)
    → IsNearlyAfter slack sent (least, most) came
travelled range since delay came_at skew sent came lag other slack least most is begins ends near far given within =
    let low : least ≡ range.0 = ap (λ (p : ℕ × ℕ). p.0) given in
    let high : most ≡ range.1 = ap (λ (p : ℕ × ℕ). p.1) given in
    let a = within.0 in
    let b = within.1 in
    (omega arith, omega arith)

no_least : (factor : ℕ) (scenario : Scenario) (m : ℕ) → (fine_range factor scenario (Wait m)).0 ≡ 0
no_least factor scenario m = elim (cases_Bool (is_sent scenario (Wait m))) [
  | inl sent ↦ rw sent (omega arith)
  | inr none ↦ rw none refl
]

summed : (scenario : Scenario) (schedule : Schedule) (m g : ℕ) → arrive scenario schedule m g ≡ issue scenario schedule m + delay_of scenario schedule (Multicast m g)
unfolding arrive
summed scenario schedule m g = refl

same_tellers : (a b : Teller) → is_same_teller a b ≡ true → a ≡ b
same_tellers (tellers.Group g) (tellers.Group h) e = ap tellers.Group (eqb-true g h e)
same_tellers (tellers.Client m) (tellers.Client n) e = ap tellers.Client (eqb-true m n e)
same_tellers (tellers.Group g) (tellers.Client n) e = absurd (false≢true e)
same_tellers (tellers.Client m) (tellers.Group h) e = absurd (false≢true e)

-- the lags of the clocks that tell when a packet was sent and when it came differ by no more than may be explained
clocks_near : (skew : ℕ) (lag : Teller → ℕ) (scenario : Scenario) (packet : Packet) → ((teller : Teller) → lag teller ≤ 2 * skew)
    → (lag (teller_of scenario (message_of packet) (sent_by packet)) ≤ lag (teller_of scenario (message_of packet) (comes_as packet)) + explained skew scenario packet)
    × (lag (teller_of scenario (message_of packet) (comes_as packet)) ≤ lag (teller_of scenario (message_of packet) (sent_by packet)) + explained skew scenario packet)
clocks_near skew lag scenario packet within =
    let a = teller_of scenario (message_of packet) (sent_by packet) in
    let b = teller_of scenario (message_of packet) (comes_as packet) in
    elim (cases_Bool (is_same_teller a b)) [
      | inl same ↦ let e : lag a ≡ lag b = ap lag (same_tellers a b same) in rw same (omega arith, omega arith)
      | inr other ↦
          let x = within a in
          let y = within b in
          rw other (omega arith, omega arith)
    ]

restored : (x lag skew time : ℕ) → x ≡ time → nat_le skew (x + lag) ≡ true → x + lag - skew + skew ≡ time + lag
restored x lag skew time is since = let low = leb-true skew (x + lag) since in omega arith

module _ (skew : ℕ) (lag : Teller → ℕ) (scenario : Scenario) where
  -- what is told by its own clock is told by one that is right
  corrected_time : (told : List Told) (m : ℕ) (event : Event) (time : ℕ) → time_told told m event ≡ Some time → list_all (is_since skew lag scenario) told ≡ true
      → (right : ℕ) × (time_told (map (corrected skew lag scenario) told) m event ≡ Some right) × (right + skew ≡ time + lag (teller_of scenario m event))
  corrected_time [] m event time e since = absurd cc
  corrected_time (x ∷ told) m event time e since =
      let s = and_parts (is_since skew lag scenario x) (list_all (is_since skew lag scenario) told) since in
      elim (cases_Bool ((x.message == m) && is_same_event x.event event)) [
        | inl is ↦
            let p = and_parts (x.message == m) (is_same_event x.event event) is in
            let message : x.message ≡ m = eqb-true x.message m p.0 in
            let event_is : x.event ≡ event = same_event x.event event p.1 in
            let h = rw is at e in
            let same : x.time ≡ time = cc h in
            let late = restored x.time (lag (teller_of scenario x.message x.event)) skew time same s.0 in
            let clock : lag (teller_of scenario x.message x.event) ≡ lag (teller_of scenario m event) = rw (message, event_is) refl in
            (x.time + lag (teller_of scenario x.message x.event) - skew, rw is refl, late ∙ ap (λ l. time + l) clock)
        | inr isnt ↦
            let rest = corrected_time told m event time (rw isnt at e) s.1 in
            (rest.0, rw isnt rest.1, rest.2)
      ]

module _ (delays : DelaysAreWithin) (unsent : UnsentTakesNoTime) (waits : WaitsAreAtMost) (skew : ℕ) (scenario : Scenario) (trace : Trace)
    (latency : Option ℕ) (holds : FitsWithin skew scenario trace latency) where
  abbrev fits : Fits scenario holds.other latency
  fits = holds.fits

  abbrev lag : Teller → ℕ
  lag = holds.skewed.lag

  right_when : (m : ℕ) (event : Event) (time : ℕ) → time_told holds.other.told m event ≡ Some time → moment_of fits.finer fits.schedule m event ≡ time
  right_when m event time e =
      let t = telling holds.other.told m event time e in
      let done = All-contains (IsDone fits.finer fits.schedule) holds.other.told t.one fits.done t.listed in
      rw (t.message, t.is, t.at) at done.moment

  moment_when : (m : ℕ) (event : Event) (time : ℕ) → time_told trace.told m event ≡ Some time
      → moment_of fits.finer fits.schedule m event + skew ≡ time + lag (teller_of scenario m event)
  moment_when m event time e =
      let c = corrected_time skew lag scenario trace.told m event time e holds.skewed.since in
      let told : time_told holds.other.told m event ≡ Some c.0 = ap (λ (xs : List Told). time_told xs m event) holds.skewed.told ∙ c.1 in
      rw (right_when m event c.0 told) c.2

  sent_alike : (packet : Packet) → is_wait packet ≡ false → is_sent fits.finer packet ≡ is_sent scenario packet
  sent_alike = sent_too holds.other.factor scenario fits.finer fits.run.told_finer.messages fits.run.told_finer.homes

  -- what a packet takes in the run is what it may
  takes : (packet : Packet) → is_wait packet ≡ false
      → ((fine_range holds.other.factor scenario packet).0 ≤ delay_of fits.finer fits.schedule packet) × (delay_of fits.finer fits.schedule packet ≤ (fine_range holds.other.factor scenario packet).1)
  takes packet travels = elim (cases_Bool (is_sent scenario packet)) [
    | inl sent ↦
        let within = delays fits.finer fits.schedule packet fits.run.assignment (sent_alike packet travels ∙ sent) in
        let inside = fits.run.told_finer.ranges packet sent travels in
        rw sent (through _ _ _ inside.0 within.0, through _ _ _ within.1 inside.1)
    | inr none ↦
        let nothing = unsent fits.finer fits.schedule packet (rw (sent_alike packet travels ∙ none) refl) in
        rw (none, nothing) (omega arith, omega arith)
  ]

  right_range : (packet : Packet) (range : ℕ × ℕ) → range ≡ fine_range trace.factor scenario packet → range ≡ fine_range holds.other.factor scenario packet
  right_range packet range e = e ∙ sym (ap (λ f. fine_range f scenario packet) holds.skewed.factor)

  near : (packet : Packet)
      → (lag (teller_of scenario (message_of packet) (sent_by packet)) ≤ lag (teller_of scenario (message_of packet) (comes_as packet)) + explained skew scenario packet)
      × (lag (teller_of scenario (message_of packet) (comes_as packet)) ≤ lag (teller_of scenario (message_of packet) (sent_by packet)) + explained skew scenario packet)
  near packet = clocks_near skew holds.skewed.lag scenario packet holds.skewed.within

  pub never : (departure : Departure) → IsOutside skew scenario trace departure → ⊥
  never (departures.Moment one moment) o = o
  never (departures.Stamp one stamp) o = o
  never (departures.Missing m g tick) o = o
  never (departures.Window m time first last) o =
      let issued = moment_when m Issue time o.0 in
      let w = window_at holds.other.factor scenario.multicasts fits.finer.multicasts m fits.run.told_finer.messages in
      let wait = waits fits.finer fits.schedule m fits.run.assignment in
      let given = o.1 ∙ sym (ap (λ f. in_fine_ticks f (window_of (message_at scenario m))) holds.skewed.factor) in
      let low : first ≡ holds.other.factor * (message_at scenario m).at = ap (λ (p : ℕ × ℕ). p.0) given in
      let high : last ≡ holds.other.factor * ((message_at scenario m).at + (message_at scenario m).longest_wait) = ap (λ (p : ℕ × ℕ). p.1) given in
      o.2 (bounds _ _ _ _ _ skew _ time first last issued (holds.skewed.within (teller_of scenario m Issue)) low high w.0 w.1 wait)
  never (departures.Packet (Wait m) sent came least most) o =
      let same : Some sent ≡ Some came = sym o.0 ∙ o.1 in
      let low : least ≡ (fine_range trace.factor scenario (Wait m)).0 = ap (λ (p : ℕ × ℕ). p.0) o.2 in
      o.3 (at_once (explained skew scenario (Wait m)) sent came least most (cc same) (low ∙ no_least trace.factor scenario m))
  never (departures.Packet (Multicast m g) sent came least most) o =
      let a = moment_when m Issue sent o.0 in
      let b = moment_when m (Arrival g) came o.1 in
      let n = near (Multicast m g) in
      o.3 (travelled _ _ _ _ skew sent came _ _ (explained skew scenario (Multicast m g)) least most (sym (summed fits.finer fits.schedule m g)) a b n.0 n.1
      (right_range (Multicast m g) (least, most) o.2) (takes (Multicast m g) refl))
  never (departures.Packet (Propose m h g) sent came least most) o =
      let a = moment_when m (Arrival h) sent o.0 in
      let b = moment_when m (Proposal g h) came o.1 in
      let n = near (Propose m h g) in
      o.3 (travelled _ _ _ _ skew sent came _ _ (explained skew scenario (Propose m h g)) least most refl a b n.0 n.1
      (right_range (Propose m h g) (least, most) o.2) (takes (Propose m h g) refl))
