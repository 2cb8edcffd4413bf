-- What the verdict by a run says.
use Rattle.std.proofs.Common.{◌≡◌, ◌⊎◌, ℕ, ◌+◌, ◌<◌, ◌≤◌, ◌==◌, leb-true, Bool, true, false, ◌||◌, length, get_or, Option, Some, None, is_some, refl, ap, sym, ◌∙◌, inl, inr, arith}
use Rattle.std.specs.Prelude.{All, Contains, IfSome, nat_le, nat_lt, unwrap_or, option_map}
use Rattle.std.specs.Option.{option_map_or}
use Rattle.std.specs.List.{list_all}
use Rattle.std.proofs.lemmas.Bool.{and_parts, cases_Bool, eq-eqb, eqb-true, false≢true}
use Rattle.std.proofs.lemmas.Bool.Decides.{nat_tests}
use Rattle.std.proofs.lemmas.List.Elements.{All-contains}
use Rattle.std.proofs.lemmas.List.Sums.{AllPass-from_list_all}
use Rattle.convoy_scenario.specs.Scenario.{Scenario, GoesTo, is_addressed, message_at}
use Rattle.convoy_packets.specs.declared.packet.Packet.TheVariants.{Propose}
use Rattle.convoy_packets.specs.Assignment.{Schedule, delay_of}
use Rattle.convoy_sim.specs.declared.run.Proposal.{Proposal}
use Rattle.convoy_sim.specs.declared.timestamp.Timestamp.{Timestamp}
use Rattle.convoy_sim.specs.Run.{Run, IsRunOf, delivered_of}
use Rattle.convoy_sim.specs.Delivery.{deliver}
use Rattle.convoy_sim.proofs.Addressed.{number_of_goes}
use Rattle.convoy_traces.specs.declared.told.Event.{Event}
use Rattle.convoy_traces.specs.declared.told.Event.TheVariants.{Issue, Arrival, Commit, Delivery}
use Rattle.convoy_traces.specs.declared.told.Event.TheVariants as events
use Rattle.convoy_traces.specs.declared.told.Stamp.{Stamp}
use Rattle.convoy_traces.specs.declared.told.Told.{Told}
use Rattle.convoy_traces.specs.Traces.{Trace}
use Rattle.convoy_fits.specs.declared.departure.Departure.{Departure}
use Rattle.convoy_fits.specs.declared.departure.Departure.TheVariants as departures
use Rattle.convoy_fits.specs.Runs.{IsDone, agrees, goes_there, is_there, moment_of, stamp_of}
use Rattle.convoy_fits.specs.Fits.{NoneIsMissing, end_of, target_told, time_told}
use Rattle.convoy_fits.specs.Departures.{IsAsTold, IsAsToldBefore, IsLedThere, IsOtherwise, is_network}
use Rattle.convoy_fits.specs.Tests.{departure_at, departure_in, departure_of_kind, first_departure, first_missing_from, missing_at, moment_in, or_else, stamp_departure, stamp_in, time_of}
use Rattle.convoy_fits.proofs.Compared.{first_least, first_none, first_some, messages_none, messages_some}

agrees_none : (told : Option Stamp) → agrees told None ≡ true
agrees_none None = refl
agrees_none (Some told) = refl

agree_from : (one : Told) (o : Option Timestamp) → stamp_departure one o ≡ None → agrees one.stamp o ≡ true
agree_from one None e = agrees_none one.stamp
agree_from one (Some stamp) e = elim (cases_Bool (agrees one.stamp (Some stamp))) [
  | inl is ↦ is
  | inr isnt ↦ absurd (let h = rw isnt at e in cc h)
]

stamp_some : (one : Told) (o : Option Timestamp) (d : Departure) → stamp_departure one o ≡ Some d
    → (stamp : Timestamp) × (o ≡ Some stamp) × (agrees one.stamp (Some stamp) ≡ false) × (departures.Stamp one stamp ≡ d)
stamp_some one None d e = absurd cc
stamp_some one (Some stamp) d e = elim (cases_Bool (agrees one.stamp (Some stamp))) [
  | inl is ↦ absurd (let h = rw is at e in cc h)
  | inr isnt ↦ (stamp, refl, isnt, (let h = rw isnt at e in cc h))
]

else_none : (a b : Option Departure) → or_else a b ≡ None → (a ≡ None) × (b ≡ None)
else_none None b e = (refl, e)
else_none (Some x) b e = absurd cc

else_some : (a b : Option Departure) (d : Departure) → or_else a b ≡ Some d → (a ≡ Some d) ⊎ ((a ≡ None) × (b ≡ Some d))
else_some None b d e = inr (refl, e)
else_some (Some x) b d e = inl e

not_some : (o : Option ℕ) → is_some o ≡ false → o ≡ None
not_some None e = refl
not_some (Some x) e = absurd (false≢true (sym e))

neither : (a b : Bool) → (a || b) ≡ false → (a ≡ false) × (b ≡ false)
neither true b e = absurd (false≢true (sym e))
neither false b e = (refl, e)

above : (a b : ℕ) → nat_le a b ≡ false → b < a
above a b e = grind (arith, nat_tests)

either : (o : Option Departure) → (o ≡ None) ⊎ ((d : Departure) × (o ≡ Some d))
either None = inl refl
either (Some d) = inr (d, refl)

-- the latency that is told where the delivery of the target is, which is the same in fine ticks
pub late_from : (scenario finer : Scenario) (trace : Trace) (a b : ℕ) (latency : Option ℕ) → finer.target_message ≡ scenario.target_message
    → finer.target_group ≡ scenario.target_group → latency ≡ option_map (λ time. a) (target_told finer trace) → a ≡ b
    → latency ≡ option_map (λ time. b) (target_told scenario trace)
late_from scenario finer trace a b latency message group told e = rw (← message, ← group, ← e) told

module _ (finer : Scenario) (schedule : Schedule) (run : Run) (is : IsRunOf finer schedule run) where
  moment_told : (m : ℕ) (event : Event) → goes_there finer m event ≡ true → moment_in finer schedule run m event ≡ moment_of finer schedule m event
  moment_told m Issue e = refl
  moment_told m (Arrival g) e = ap (λ (o : Option Proposal). option_map_or (λ p. p.tick) o 0) (is.proposed m g e)
  moment_told m (events.Proposal g h) e =
      let p = and_parts (is_addressed (message_at finer m) g) (is_addressed (message_at finer m) h) e in
      ap (λ (o : Option Proposal). option_map_or (λ p. p.tick) o 0 + delay_of finer schedule (Propose m h g)) (is.proposed m h p.1)
  moment_told m (Commit g) e = ap (λ (o : Option ℕ). unwrap_or o 0) (is.committed m g e)
  moment_told m (Delivery g) e = ap (λ (o : Option ℕ). unwrap_or o 0) (is.delivered m g e)

  stamp_told : (m : ℕ) (event : Event) → m < length finer.multicasts → goes_there finer m event ≡ true → stamp_in run m event ≡ stamp_of finer schedule m event
  stamp_told m Issue below e = refl
  stamp_told m (Arrival g) below e = ap (λ (o : Option Proposal). option_map (λ p. p.stamp) o) (is.proposed m g e)
  stamp_told m (events.Proposal g h) below e =
      let p = and_parts (is_addressed (message_at finer m) g) (is_addressed (message_at finer m) h) e in
      ap (λ (o : Option Proposal). option_map (λ p. p.stamp) o) (is.proposed m h p.1)
  stamp_told m (Commit g) below e = is.final_stamps m below
  stamp_told m (Delivery g) below e = is.final_stamps m below

  module _ (one : Told) (there : is_there finer one ≡ true) where
    parts : (nat_lt one.message (length finer.multicasts) ≡ true) × (goes_there finer one.message one.event ≡ true)
    parts = and_parts (nat_lt one.message (length finer.multicasts)) (goes_there finer one.message one.event) there

    below : one.message < length finer.multicasts
    below = let h = parts.0 in grind (arith, nat_tests)

    moment_is : moment_in finer schedule run one.message one.event ≡ moment_of finer schedule one.message one.event
    moment_is = moment_told one.message one.event parts.1

    stamp_is : stamp_in run one.message one.event ≡ stamp_of finer schedule one.message one.event
    stamp_is = stamp_told one.message one.event below parts.1

    pub done_at : departure_at finer schedule run one ≡ None → IsDone finer schedule one
    done_at none = elim (cases_Bool (moment_in finer schedule run one.message one.event == one.time)) [
      | inl then ↦ record {
        moment = sym moment_is ∙ eqb-true _ _ then;
        stamp = let h = rw then at none in agree_from one (stamp_of finer schedule one.message one.event) (rw stamp_is at h);
      }
      | inr other ↦ absurd (let h = rw other at none in cc h)
    ]

    pub departure_time : (d : Departure) → departure_at finer schedule run one ≡ Some d → time_of d ≡ one.time
    departure_time d some = elim (cases_Bool (moment_in finer schedule run one.message one.event == one.time)) [
      | inl then ↦
          let h = rw then at some in
          let s = stamp_some one (stamp_of finer schedule one.message one.event) d (rw stamp_is at h) in
          rw (← s.3) refl
      | inr other ↦
          let h = rw other at some in
          let same : departures.Moment one (moment_in finer schedule run one.message one.event) ≡ d = cc h in
          rw (← same) refl
    ]

    pub least_at : (d e : Departure) → is_network one.event ≡ true → IfSome (departure_of_kind finer schedule run true one) (λ k. time_of d ≤ time_of k)
        → departure_at finer schedule run one ≡ Some e → time_of d ≤ one.time
    least_at d e net least some =
        let h = rw net at least in
        let low : time_of d ≤ time_of e = rw some at h in
        let at = departure_time e some in
        omega arith

    pub otherwise_at : (trace : Trace) (d : Departure) → Contains trace.told one → IsLedThere finer schedule trace one
        → departure_at finer schedule run one ≡ Some d → IsOtherwise finer schedule trace d
    otherwise_at trace d listed kept some = elim (cases_Bool (moment_in finer schedule run one.message one.event == one.time)) [
      | inl then ↦
          let h = rw then at some in
          let s = stamp_some one (stamp_of finer schedule one.message one.event) d (rw stamp_is at h) in
          rw (← s.3) (listed, s.1, (λ q. false≢true (sym s.2 ∙ q)), kept)
      | inr other ↦
          let h = rw other at some in
          let same : departures.Moment one (moment_in finer schedule run one.message one.event) ≡ d = cc h in
          rw (← same) (listed, sym moment_is, (λ q. false≢true (sym other ∙ eq-eqb _ _ q)), kept)
    ]

  module _ (trace : Trace) (there : list_all (is_there finer) trace.told ≡ true) where
    all_there : All (λ one. is_there finer one ≡ true) trace.told
    all_there = AllPass-from_list_all (is_there finer) trace.told there

    none_network : (one : Told) → departure_of_kind finer schedule run true one ≡ None → is_network one.event ≡ true → departure_at finer schedule run one ≡ None
    none_network one none net = rw net at none

    none_other : (one : Told) → departure_of_kind finer schedule run false one ≡ None → is_network one.event ≡ false → departure_at finer schedule run one ≡ None
    none_other one none net = rw net at none

    as_told : All (λ one. departure_of_kind finer schedule run true one ≡ None) trace.told → IsAsTold finer schedule trace
    as_told none = λ k d within. λ net.
        (done_at (get_or trace.told k d) (all_there k d within) (none_network (get_or trace.told k d) (none k d within) net)).moment

    as_told_before : (time : ℕ) (d : Departure) → time_of d ≡ time → All (λ one. IfSome (departure_of_kind finer schedule run true one) (λ k. time_of d ≤ time_of k)) trace.told
        → IsAsToldBefore time finer schedule trace
    as_told_before time d at least = λ k e within. λ net soon. elim (either (departure_at finer schedule run (get_or trace.told k e))) [
      | inl none ↦ (done_at (get_or trace.told k e) (all_there k e within) none).moment
      | inr some ↦ absurd (let low = least_at (get_or trace.told k e) (all_there k e within) d some.0 net (least k e within) some.1 in omega arith)
    ]

    all_done : All (λ one. departure_of_kind finer schedule run true one ≡ None) trace.told → All (λ one. departure_of_kind finer schedule run false one ≡ None) trace.told
        → All (IsDone finer schedule) trace.told
    all_done none others = λ k d within. elim (cases_Bool (is_network (get_or trace.told k d).event)) [
      | inl net ↦ done_at (get_or trace.told k d) (all_there k d within) (none_network (get_or trace.told k d) (none k d within) net)
      | inr net ↦ done_at (get_or trace.told k d) (all_there k d within) (none_other (get_or trace.told k d) (others k d within) net)
    ]

    not_missing : (m g : ℕ) → GoesTo finer m g → missing_at run trace.told m g ≡ None → time_told trace.told m (Delivery g) ≡ None
        → end_of trace.told ≤ deliver finer schedule m g
    not_missing m g goes none untold = elim (cases_Bool (nat_le (end_of trace.told) (unwrap_or (delivered_of run m g) 0))) [
      | inl late ↦ let h = leb-true (end_of trace.told) (unwrap_or (delivered_of run m g) 0) late in rw (is.delivered m g goes) at h
      | inr soon ↦ absurd (let h = rw (untold, soon) at none in cc h)
    ]

    is_missing : (m g : ℕ) (d : Departure) → GoesTo finer m g → IsAsTold finer schedule trace → missing_at run trace.told m g ≡ Some d → IsOtherwise finer schedule trace d
    is_missing m g d goes kept some =
        elim (cases_Bool (is_some (time_told trace.told m (Delivery g)) || nat_le (end_of trace.told) (unwrap_or (delivered_of run m g) 0))) [
          | inl either ↦ absurd (let h = rw either at some in cc h)
          | inr none ↦
              let h = rw none at some in
              let same : departures.Missing m g (unwrap_or (delivered_of run m g) 0) ≡ d = cc h in
              let n = neither (is_some (time_told trace.told m (Delivery g))) (nat_le (end_of trace.told) (unwrap_or (delivered_of run m g) 0)) none in
              let when = ap (λ (o : Option ℕ). unwrap_or o 0) (is.delivered m g goes) in
              rw (← same) (goes, not_some (time_told trace.told m (Delivery g)) n.0, sym when, above (end_of trace.told) (unwrap_or (delivered_of run m g) 0) n.1, kept)
        ]

    pub judged_none : departure_in finer schedule run trace.told ≡ None → All (IsDone finer schedule) trace.told × NoneIsMissing finer schedule trace.told
    judged_none e =
        let a = first_departure finer schedule run true None trace.told in
        let known = first_departure finer schedule run false None trace.told in
        let b = first_missing_from finer run trace.told known (length finer.multicasts) 0 in
        let both = else_none a b e in
        let network = first_none finer schedule run true None trace.told both.0 in
        let rest = messages_none finer run trace.told known (length finer.multicasts) 0 both.1 in
        let others = first_none finer schedule run false None trace.told rest.0 in (
          all_done network.1 others.1,
          λ m g goes untold.
              not_missing m g goes (rest.1 m g (omega arith) (let n = number_of_goes finer m g goes in omega arith) goes) untold,
        )

    of_network : (one : Told) (d : Departure) → departure_of_kind finer schedule run true one ≡ Some d → (is_network one.event ≡ true) × (departure_at finer schedule run one ≡ Some d)
    of_network one d e = elim (cases_Bool (is_network one.event)) [
      | inl net ↦ (net, rw net at e)
      | inr net ↦ absurd (let h = rw net at e in cc h)
    ]

    of_other : (one : Told) (d : Departure) → departure_of_kind finer schedule run false one ≡ Some d → departure_at finer schedule run one ≡ Some d
    of_other one d e = elim (cases_Bool (is_network one.event)) [
      | inl net ↦ absurd (let h = rw net at e in cc h)
      | inr net ↦ rw net at e
    ]

    there_if_listed : (one : Told) → Contains trace.told one → is_there finer one ≡ true
    there_if_listed one listed = All-contains (λ x. is_there finer x ≡ true) trace.told one all_there listed

    pub judged_some : (d : Departure) → departure_in finer schedule run trace.told ≡ Some d → IsOtherwise finer schedule trace d
    judged_some d e =
        let a = first_departure finer schedule run true None trace.told in
        let known = first_departure finer schedule run false None trace.told in
        let b = first_missing_from finer run trace.told known (length finer.multicasts) 0 in
        elim (else_some a b d e) [
          | inl network ↦ elim (first_some finer schedule run true None trace.told d network) [
            | inl nothing ↦ absurd (cc nothing)
            | inr here ↦
                let n = of_network here.0 d here.2 in
                let there_it_is = there_if_listed here.0 here.1 in
                let before = as_told_before here.0.time d (departure_time here.0 there_it_is d n.1) (first_least finer schedule run true None trace.told d network).1 in
                otherwise_at here.0 there_it_is trace d here.1 (inl (n.0, before)) n.1
          ]
          | inr rest ↦
              let kept = as_told (first_none finer schedule run true None trace.told rest.0).1 in
              elim (messages_some finer run trace.told known (length finer.multicasts) 0 d rest.1) [
                | inl other ↦ elim (first_some finer schedule run false None trace.told d other) [
                  | inl nothing ↦ absurd (cc nothing)
                  | inr here ↦ otherwise_at here.0 (there_if_listed here.0 here.1) trace d here.1 (inr kept) (of_other here.0 d here.2)
                ]
                | inr missing ↦ is_missing missing.0 missing.1 d missing.2 kept missing.3
              ]
        ]
