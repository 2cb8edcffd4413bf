-- The law of leads: no stamp exceeds that of a message at the target's group by more than the starts say.
use Rattle.std.proofs.Common.{Bool, ◌⊎◌, ◌≡◌, ◌≢◌, ℕ, ◌+◌, ◌-◌, ◌<◌, ◌≤◌, zero, suc, max, min, true, false, not, ◌==◌, ◌&&◌, nat_lt, nat_le, inl, inr, List, [], ◌∷◌, length, map, filter, fold, get_or, refl, sym, ap, subst, ◌∙◌, arith}
use Rattle.std.specs.List.{range_with_len}
use Rattle.std.proofs.lemmas.List.{get_or_past}
use Rattle.std.proofs.lemmas.List.FromFn.{length-map-range_with_len, get_or-map-range_with_len}
use Rattle.std.proofs.lemmas.Bool.{cond-true, cases_lt, and_from, and_parts, leb-true, both_ways, eq-eqb, eqb-true, lt-ltb, le-leb, not_from_false, false_from_ne_true, false≢true}
use Rattle.convoy_scenario.specs.Scenario.{Scenario, message_at, GoesTo}
use Rattle.convoy_scenario.specs.WellFormed.{IsScenario}
use Rattle.convoy_packets.specs.Assignment.{Schedule, IsAssignment}
use Rattle.convoy_sim.specs.Times.{greatest, arrive, settle, propose_arrive}
use Rattle.convoy_sim.specs.Moments.{is_before, arrival_of, commit_of, next_arrival}
use Rattle.convoy_sim.specs.Stamps.{local_stamp, final_stamp}
use Rattle.convoy_sim.specs.Delivery.{addressed_to}
use Rattle.convoy_sim.specs.RaiseLaws.{IsLastRaise, IsRaise, IsCounted}
use Rattle.convoy_sim.proofs.Membership.{IsIn, in-filter, in_of_filter, in-map, in_greatest}
use Rattle.convoy_sim.proofs.Addressed.{in-addressed, goes_of_addressed, in_of_goes}
use Rattle.convoy_sim.proofs.MomentsOrder.{before_by_tick, before_itself, before_one_way, time_of_not_less}
use Rattle.convoy_sim.proofs.MomentTicks.{tick_of_before, tick_of_commit}
use Rattle.convoy_stamps.specs.declared.pair.Pair.{Pair}
use Rattle.convoy_stamps.specs.Reach.{pair_of, pairs_of}
use Rattle.convoy_stamps.proofs.Arrivals.{arrives_first, next_rises}
use Rattle.convoy_stamps.proofs.Pairs.{in-pairs}
use Rattle.convoy_starts.specs.Below.{LawsBelow}
use Rattle.convoy_sure.specs.Windows.{LeadTables, EnclosesAll}
use Rattle.convoy_sure.specs.SureLeads.{Sure, may_be_earlier, sure_after, sure_later, lead_at, top_of}
use Rattle.convoy_sure.specs.SureLaws.{IsSure}
use Rattle.convoy_starts.specs.Starts.{first_past, window, may_arrive, arrivals_since, Start, barred_at, value_for, clock_since, clock_from, may_start, may_have_come, stamp_high, stamp_for, raise_high, may_commit, covers_all, covers, start_of, add_start, starts_before}
use Rattle.convoy_starts.proofs.Times.{before_first_past, first_past_next, may_precede_by, no_later_than_commit, proposal_takes_time, within_all}
use Rattle.convoy_starts.proofs.Caps.{within_cap, within_window}
use Rattle.convoy_starts.proofs.AddedStarts.{add_stays, in_of_add, add_has, all_stay}

in_max : (a x : ℕ) (xs : List ℕ) → IsIn x xs → x ≤ fold max a xs
in_max a x [] h = absurd h
in_max a x (y ∷ ys) (inl e) = let rest = start_max (max a y) ys in omega arith where
  start_max : (a : ℕ) (xs : List ℕ) → a ≤ fold max a xs
  start_max a [] = omega arith
  start_max a (x ∷ xs) = let rest = start_max (max a x) xs in omega arith
in_max a x (y ∷ ys) (inr h) = in_max (max a y) x ys h

-- an entry of a list of values that covers another is no less than the other's, or past its end
covered : (old new : List ℕ) (x base_old base_new : ℕ) → covers_all old new ≡ true
    → (get_or old x base_old ≡ base_old) ⊎ (get_or new x base_new ≤ get_or old x base_old)
covered [] new x base_old base_new h = inl refl
covered (a ∷ more) [] x base_old base_new h = absurd (false≢true h)
covered (a ∷ more) (b ∷ others) zero base_old base_new h = inr (leb-true b a (and_parts (nat_le b a) (covers_all more others) h).0)
covered (a ∷ more) (b ∷ others) (suc x) base_old base_new h = covered more others x base_old base_new (and_parts (nat_le b a) (covers_all more others) h).1

-- an entry of a list of values of messages by number is the message's, or past the end
listed : (f : ℕ → ℕ) (count x base : ℕ) → (get_or (map f (range_with_len 0 count)) x base ≡ f x) ⊎ (get_or (map f (range_with_len 0 count)) x base ≡ base)
listed f count x base = elim (cases_lt x count) [
  | inl l ↦ inl (get_or-map-range_with_len f 0 count x x base l (omega arith))
  | inr l ↦ inr (get_or_past (map f (range_with_len 0 count)) x base (omega (arith, length-map-range_with_len f 0 count)))
]

differ : (a b : ℕ) → a ≢ b → not (a == b) ≡ true
differ a b d = not_from_false (a == b) (false_from_ne_true (a == b) (λ t. d (eqb-true a b t)))

-- a proposal comes to another group no sooner than its least delay after the message, which is one tick or more
proposed : (scenario : Scenario) (schedule : Schedule) (tables : LeadTables) → IsScenario scenario → IsAssignment scenario schedule → EnclosesAll scenario schedule tables
    → (c f g : ℕ) → GoesTo scenario c f → GoesTo scenario c g → f ≢ g
    → arrive scenario schedule c f + max 1 (tables.least_proposal c f g) ≤ settle scenario schedule c g
unfolding settle
proposed scenario schedule tables well assigned enclosed c f g goes at away =
    let most = in_greatest (propose_arrive scenario schedule c g) f (message_at scenario c).destinations (in_of_goes scenario c f goes) in
    let low = enclosed.proposals_low c f g goes at in
    let some = proposal_takes_time scenario schedule well assigned c f g goes at away in
    omega arith

module _ (below_laws : LawsBelow) (scenario : Scenario) (schedule : Schedule) (tables : LeadTables) (well : IsScenario scenario) (assigned : IsAssignment scenario schedule) (enclosed : EnclosesAll scenario schedule tables) (n : ℕ)
    (sure : Sure) (holds : IsSure scenario schedule tables.times n sure) where
  abbrev pub time : ℕ → ℕ → ℕ
  time m g = (local_stamp scenario schedule m g).time

  -- the time that all is measured against
  abbrev pub own : ℕ
  own = time n scenario.target_group

  -- what is left of it above the message's sure time
  abbrev pub rest : ℕ
  rest = own - sure.time

  -- message x is committed nowhere before that tick
  abbrev pub IsClear : ℕ → ℕ → Type 0
  IsClear x tick = (k : ℕ) → GoesTo scenario x k → tick ≤ settle scenario schedule x k

  -- nor before message q arrives at group h
  abbrev pub IsClearOf : ℕ → ℕ → ℕ → Type 0
  IsClearOf x q h = (k : ℕ) → GoesTo scenario x k → is_before (commit_of scenario schedule x k) (arrival_of scenario schedule q h) ≡ false

  -- a value that bounds each stamp of a message but that of group g
  abbrev pub BoundsFrom : ℕ → ℕ → ℕ → Type 0
  BoundsFrom c g value = (f : ℕ) → GoesTo scenario c f → f ≢ g → time c f ≤ rest + value

  -- the start is that of the commit of message c at group g
  pub record IsFor (c g : ℕ) (start : Start) : Type 0 where
    pub message : start.message ≡ c
    pub group : start.group ≡ g
    pub at : start.at ≤ settle scenario schedule c g
    pub base : IsClear scenario.target_message (settle scenario schedule c g) → BoundsFrom c g start.base
    pub barred : (x : ℕ) → IsClear scenario.target_message (settle scenario schedule c g) → IsClear x (settle scenario schedule c g)
        → BoundsFrom c g (barred_at start x)

  -- there is a start for each commit before that tick, but the target's
  abbrev pub HaveStarts : List Start → ℕ → Type 0
  HaveStarts starts tick =
      (c g : ℕ) → GoesTo scenario c g → c ≢ scenario.target_message → settle scenario schedule c g < tick
      → (start : Start) × IsIn start starts × IsFor c g start

  -- the messages that were counted are among those that may arrive
  comes_in : (q h tick since u z : ℕ) → arrive scenario schedule q h ≤ tick → IsCounted scenario schedule q h since u z → IsIn z (arrivals_since scenario tables.times tick q h since)
  comes_in q h tick since u z l is =
      let low_z = enclosed.times.arrival_low z h is.goes in
      let high_z = enclosed.times.arrival_high z h is.goes in
      let late = is.late in
      let first : ℕ = max since (tables.times.least_arrival z h) in
      let not_q : z ≢ q = λ e.
      both_ways (is_before (arrival_of scenario schedule z h) (arrival_of scenario schedule q h))
      (subst (λ m. is_before (arrival_of scenario schedule z h) (arrival_of scenario schedule m h) ≡ false) e (before_itself (arrival_of scenario schedule z h))) is.first in
      let early : may_be_earlier scenario.time first z tick q ≡ true = may_precede_by scenario schedule z q h first tick is.first (omega arith) l in
      in-filter (may_arrive scenario.time tables.times tick q h since) z (addressed_to scenario h) (in-addressed scenario z h is.goes)
      (and_from (not (z == q) && may_be_earlier scenario.time first z tick q) (nat_le since (tables.times.greatest_arrival z h))
      (and_from (not (z == q)) (may_be_earlier scenario.time first z tick q) (differ z q not_q) early)
      (le-leb since (tables.times.greatest_arrival z h) (omega arith)))

  to_comers : (q h tick since z : ℕ) → IsIn z (arrivals_since scenario tables.times tick q h since) → GoesTo scenario z h
  to_comers q h tick since z i = goes_of_addressed scenario z h (in_of_filter (may_arrive scenario.time tables.times tick q h since) z (addressed_to scenario h) i).0

  sooner_counted : (q h low since u z : ℕ) → low ≤ since → IsCounted scenario schedule q h since u z → IsCounted scenario schedule q h low u z
  sooner_counted q h low since u z l is =
      let late = is.late in
      record { goes = is.goes; late = omega arith; first = is.first; stamp = is.stamp }

  -- a start bounds the time that its commit raises the clock to
  value_over : (x q c f g : ℕ) (start : Start) → IsFor c g start → GoesTo scenario c f → f ≢ g
      → IsClear scenario.target_message (settle scenario schedule c g) → IsClear x (settle scenario schedule c g) → IsClear q (settle scenario schedule c g)
      → time c f - rest ≤ value_for start x q
  value_over x q c f g start is goes away clear_t clear_x clear_q =
      let base : time c f ≤ rest + start.base = is.base clear_t f goes away in
      let by_x : time c f ≤ rest + barred_at start x = is.barred x clear_t clear_x f goes away in
      let by_q : time c f ≤ rest + barred_at start q = is.barred q clear_t clear_q f goes away in
      omega arith

  -- the law of stamps
  pub stamp_within : (starts : List Start) (by : ℕ) → HaveStarts starts by → (x q h tick : ℕ) → GoesTo scenario q h
      → arrive scenario schedule q h ≤ tick → first_past scenario.time (arrive scenario schedule q h) ≤ by
      → IsClearOf scenario.target_message q h → IsClearOf x q h
      → time q h ≤ rest + stamp_high scenario tables.times sure starts x q h tick
  stamp_within starts by have x q h tick goes l m clear_t clear_x =
      let most = within_all below_laws scenario schedule well tables.times enclosed.times q h goes in
      let here = within_cap own sure.time
      (max (lead_at sure.leads q h) (top_of (λ z. lead_at sure.leads z h) (sure_after scenario tables.times tick q h)))
      (greatest all + 1) (local_stamp scenario schedule q h).time holds.time_holds (counted_out (below_laws.raise scenario schedule well q h goes)) caps in
      omega arith where
        all : List ℕ
        all = window sure.time (λ z. lead_at sure.leads z h) (arrivals_since scenario tables.times tick q h 0) 0
            ∷ map (clock_from scenario tables.times sure x q h tick) starts

        caps : max (lead_at sure.leads q h) (top_of (λ z. lead_at sure.leads z h) (sure_after scenario tables.times tick q h))
            ≤ (own + 1) - (local_stamp scenario schedule q h).time
        caps =
            let here = holds.leads_hold q h goes in
            let after = holds.after_holds q h tick goes l in
            omega arith

        below : ℕ
        below = (local_stamp scenario schedule q h).time - 1

        clear_of_q : IsClearOf q q h
        clear_of_q k to = before_one_way (arrival_of scenario schedule q h) (commit_of scenario schedule q k) (arrives_first scenario schedule q h k goes)

        by_window : (since v value : ℕ) (zs : List ℕ) → v ≤ (own - sure.time) + value
            → ((u z : ℕ) → v < u → IsCounted scenario schedule q h since u z → IsIn z zs) → ((z : ℕ) → IsIn z zs → GoesTo scenario z h)
            → ((u : ℕ) → v < u → u < (local_stamp scenario schedule q h).time → (z : ℕ) × IsCounted scenario schedule q h since u z)
            → below ≤ (own - sure.time) + window sure.time (λ z. lead_at sure.leads z h) zs value
        by_window since v value zs start there to counts =
            within_window (λ z. (local_stamp scenario schedule z h).time) (λ z. lead_at sure.leads z h) zs own
            sure.time value v below holds.time_holds start
            (λ u a b. let r = counts u a (omega arith) in (r.0, there u r.0 a r.1, r.1.stamp))
            (λ z i. holds.leads_hold z h (to z i))

        -- the commit that raised the clock last is of none that is committed nowhere before
        other : (c y : ℕ) → is_before (commit_of scenario schedule c h) (arrival_of scenario schedule q h) ≡ true → GoesTo scenario c h → IsClearOf y q h → c ≢ y
        other c y before to clear e =
            both_ways (is_before (commit_of scenario schedule c h) (arrival_of scenario schedule q h))
            (subst (λ k. is_before (commit_of scenario schedule k h) (arrival_of scenario schedule q h) ≡ false) (sym e) (clear h (subst (λ k. GoesTo scenario k h) e to)))
            before

        -- and those are committed nowhere before it
        sooner : (c y : ℕ) → is_before (commit_of scenario schedule c h) (arrival_of scenario schedule q h) ≡ true → IsClearOf y q h → IsClear y (settle scenario schedule c h)
        sooner c y before clear k to =
            let soon : settle scenario schedule c h ≤ arrive scenario schedule q h = tick_of_before (commit_of scenario schedule c h) (arrival_of scenario schedule q h) before in
            let late : arrive scenario schedule q h ≤ settle scenario schedule y k = no_later_than_commit scenario schedule y k q h (clear k to) in
            omega arith

        counted_out : (v : ℕ) × (since : ℕ) × IsLastRaise scenario schedule q h v since
            → (local_stamp scenario schedule q h).time ≤ (own - sure.time) + (greatest all + 1)
        counted_out r = elim r.2.by [
          | inl none ↦
              let w = by_window r.1 r.0 0 (arrivals_since scenario tables.times tick q h 0) (omega (arith, none.0))
              (λ u z past is. comes_in q h tick 0 u z l (subst (λ s. IsCounted scenario schedule q h s u z) none.1 is))
              (to_comers q h tick 0) r.2.counted in
              let most = in_max 0 (window sure.time (λ z. lead_at sure.leads z h) (arrivals_since scenario tables.times tick q h 0) 0) all (inl refl) in
              omega arith
          | inr c ↦
              let is : IsRaise scenario schedule q h c.0 c.1 r.0 r.1 = c.2 in
              let late : next_arrival scenario.time (settle scenario schedule c.0 h) ≤ arrive scenario schedule q h = tick_of_commit scenario schedule c.0 q h is.first in
              let have_one = have c.0 h is.goes (other c.0 scenario.target_message is.first is.goes clear_t)
              (before_first_past scenario.time (settle scenario schedule c.0 h) (arrive scenario schedule q h) by late m) in
              let start : Start = have_one.0 in
              let for_it : IsFor c.0 h start = have_one.2 in
              let value = value_over x q c.0 c.1 h start for_it is.from is.elsewhere (sooner c.0 scenario.target_message is.first clear_t)
              (sooner c.0 x is.first clear_x) (sooner c.0 q is.first clear_of_q) in
              let stamp = is.stamp in
              let from : ℕ = next_arrival scenario.time start.at in
              let rise : from ≤ next_arrival scenario.time (settle scenario schedule c.0 h) = next_rises scenario.time start.at (settle scenario schedule c.0 h) for_it.at in
              let next : from ≤ r.1 = omega (arith, is.next) in
              let own_time = time_of_not_less (final_stamp scenario schedule c.0) (local_stamp scenario schedule c.0 h) (below_laws.not_greater scenario schedule well c.0 h is.goes) in
              let final : (final_stamp scenario schedule c.0).time ≡ r.0 = is.final in
              let rest_of : List ℕ = filter (λ z. not (z == start.message)) (arrivals_since scenario tables.times tick q h from) in
              let w = by_window r.1 r.0 (value_for start x q) rest_of (omega arith)
              (λ u z past counted. in-filter (λ z. not (z == start.message)) z (arrivals_since scenario tables.times tick q h from)
              (comes_in q h tick from u z l (sooner_counted q h from r.1 u z next counted))
              (differ z start.message (λ e.
              let same : (local_stamp scenario schedule z h).time ≡ (local_stamp scenario schedule c.0 h).time = ap (λ k. (local_stamp scenario schedule k h).time) (e ∙ for_it.message) in
              let there : (local_stamp scenario schedule z h).time ≡ u = counted.stamp in
              absurd (omega arith))))
              (λ z i. to_comers q h tick from z (in_of_filter (λ z. not (z == start.message)) z (arrivals_since scenario tables.times tick q h from) i).0)
              r.2.counted in
              let test : may_start scenario.time x q h tick start ≡ true =
              and_from ((start.group == h) && nat_le from tick && not (start.message == q)) (not (start.message == x))
              (and_from ((start.group == h) && nat_le from tick) (not (start.message == q))
              (and_from (start.group == h) (nat_le from tick) (eq-eqb start.group h for_it.group) (le-leb from tick (omega arith)))
              (differ start.message q (λ e. other c.0 q is.first is.goes clear_of_q (sym for_it.message ∙ e))))
              (differ start.message x (λ e. other c.0 x is.first is.goes clear_x (sym for_it.message ∙ e))) in
              let most = in_max 0 (clock_from scenario tables.times sure x q h tick start) all
              (inr (in-map (clock_from scenario tables.times sure x q h tick) start starts have_one.1)) in
              let value_is = cond-true (may_start scenario.time x q h tick start) (clock_since scenario tables.times sure x q h tick start) 0 test in
              omega arith
        ]

  -- ---- the starts
  start_law : (starts : List Start) (tick : ℕ) → HaveStarts starts tick → (c g : ℕ) → GoesTo scenario c g → settle scenario schedule c g ≡ tick
      → (x : ℕ) → IsClear scenario.target_message tick → IsClear x tick → BoundsFrom c g (raise_high scenario tables sure starts tick x c g)
  start_law starts tick have c g goes at x clear_t clear_x f to away =
      let most : ℕ = min (tables.times.greatest_arrival c f) (tick - max 1 (tables.least_proposal c f g)) in
      let sent = proposed scenario schedule tables well assigned enclosed c f g to goes away in
      let high : arrive scenario schedule c f ≤ tables.times.greatest_arrival c f = enclosed.times.arrival_high c f to in
      let past = first_past_next scenario.time (arrive scenario schedule c f) in
      let sooner : (y : ℕ) → IsClear y tick → IsClearOf y c f = λ y clear k there.
      let far : tick ≤ settle scenario schedule y k = clear k there in
      before_one_way (arrival_of scenario schedule c f) (commit_of scenario schedule y k)
      (before_by_tick (arrival_of scenario schedule c f) (commit_of scenario schedule y k) (omega arith)) in
      let here = stamp_within starts tick have x c f most to (omega arith) (omega arith) (sooner scenario.target_message clear_t) (sooner x clear_x) in
      let all = in_greatest (stamp_for scenario tables sure starts tick x c g) f (message_at scenario c).destinations (in_of_goes scenario c f to) in
      let test = and_from (not (f == g)) (nat_lt 0 tick) (differ f g away) (lt-ltb 0 tick (omega arith)) in
      let value_is = cond-true (may_have_come tick f g) (stamp_high scenario tables.times sure starts x c f most) 0 test in
      let caps = holds.later_holds c f g tick to goes (omega arith) in
      within_cap own sure.time
      (top_of (λ z. lead_at sure.leads z g) (sure_later scenario tables.times tick g))
      (greatest (map (stamp_for scenario tables sure starts tick x c g) (message_at scenario c).destinations))
      (local_stamp scenario schedule c f).time holds.time_holds (omega arith) caps

  -- a start for a commit, at its tick
  start_now : (barring : Bool) (starts : List Start) (tick c g : ℕ) → HaveStarts starts tick → GoesTo scenario c g → settle scenario schedule c g ≡ tick
      → IsFor c g (start_of scenario tables sure barring starts tick (pair_of c g))
  start_now barring starts tick c g have goes at =
      let law : (x : ℕ) → IsClear scenario.target_message (settle scenario schedule c g) → IsClear x (settle scenario schedule c g)
      → BoundsFrom c g (raise_high scenario tables sure starts tick x c g) = λ x clear_t clear_x.
      start_law starts tick have c g goes at x
      (subst (λ k. IsClear scenario.target_message k) at clear_t) (subst (λ k. IsClear x k) at clear_x) in
      record {
        message = refl;
        group = refl;
        at = omega arith;
        base = λ clear. law scenario.target_message clear clear;
        barred = λ x clear_t clear_x. elim (barred_is barring starts tick c g x) [
          | inl e ↦ subst (λ (v : ℕ). BoundsFrom c g v) (sym e) (law x clear_t clear_x)
          | inr e ↦ subst (λ (v : ℕ). BoundsFrom c g v) (sym e) (law scenario.target_message clear_t clear_t)
        ];
      } where
        barred_is : (barring : Bool) (starts : List Start) (tick c g x : ℕ)
            → (barred_at (start_of scenario tables sure barring starts tick (pair_of c g)) x ≡ raise_high scenario tables sure starts tick x c g)
            ⊎ (barred_at (start_of scenario tables sure barring starts tick (pair_of c g)) x ≡ raise_high scenario tables sure starts tick scenario.target_message c g)
        barred_is true starts tick c g x =
            listed (λ y. raise_high scenario tables sure starts tick y c g) (length scenario.multicasts) x (raise_high scenario tables sure starts tick scenario.target_message c g)
        barred_is false starts tick c g x = inr refl

  -- a start that covers the one for a commit serves for it
  covering : (old new : Start) (c g : ℕ) → covers old new ≡ true → old.at ≤ settle scenario schedule c g → IsFor c g new → IsFor c g old
  covering old new c g h at is =
      let outer = and_parts ((old.message == new.message) && (old.group == new.group) && nat_le new.base old.base) (covers_all old.barred new.barred) h in
      let mid = and_parts ((old.message == new.message) && (old.group == new.group)) (nat_le new.base old.base) outer.0 in
      let inner = and_parts (old.message == new.message) (old.group == new.group) mid.0 in
      let high = leb-true new.base old.base mid.1 in
      record {
        message = eqb-true old.message new.message inner.0 ∙ is.message;
        group = eqb-true old.group new.group inner.1 ∙ is.group;
        at = at;
        base = λ clear f to away. let b = is.base clear f to away in omega arith;
        barred = λ x clear_t clear_x f to away. elim (covered old.barred new.barred x old.base new.base outer.1) [
          | inl e ↦ let b = is.base clear_t f to away in omega (arith, e)
          | inr l ↦ let b = is.barred x clear_t clear_x f to away in omega (arith, l)
        ];
      }

  -- ---- adding starts
  -- every start is of that tick or an earlier one
  abbrev pub AreBy : List Start → ℕ → Type 0
  AreBy starts tick = (start : Start) → IsIn start starts → start.at ≤ tick

  module _ (barring : Bool) (tick : ℕ) where
    abbrev pub one : List Start → Pair → List Start
    one = add_start scenario tables sure barring tick

    add_by : (starts : List Start) (pair : Pair) → AreBy starts tick → AreBy (one starts pair) tick
    add_by starts pair by s i = elim (in_of_add scenario tables sure barring tick starts pair s i) [
      | inl j ↦ by s j
      | inr new ↦ let at : tick ≡ s.at = ap (λ (k : Start). k.at) new.1 in omega arith
    ]

    all_by : (starts : List Start) (pairs : List Pair) → AreBy starts tick → AreBy (fold one starts pairs) tick
    all_by starts [] by = by
    all_by starts (p ∷ ps) by = all_by (one starts p) ps (add_by starts p by)

    still : (starts : List Start) (p : Pair) → HaveStarts starts tick → HaveStarts (one starts p) tick
    still starts p have c g goes other l =
        let r = have c g goes other l in
        (r.0, add_stays scenario tables sure barring tick starts p r.0 r.1, r.2)

    -- a commit at the tick has a start once its pair is added
    has_start : (starts : List Start) → HaveStarts starts tick → AreBy starts tick → (c g : ℕ) → GoesTo scenario c g → c ≢ scenario.target_message
        → settle scenario schedule c g ≡ tick → (s : Start) × IsIn s (one starts (pair_of c g)) × IsFor c g s
    has_start starts have by c g goes other at =
        let least : tables.times.least_settling c g ≤ settle scenario schedule c g = enclosed.times.settling_low c g goes in
        let most : settle scenario schedule c g ≤ tables.times.greatest_settling c g = enclosed.times.settling_high c g goes in
        let pair : Pair = pair_of c g in
        let new : Start = start_of scenario tables sure barring starts tick pair in
        let is : IsFor c g new = start_now barring starts tick c g have goes at in
        let test : may_commit scenario tables.times tick pair ≡ true =
        and_from (not (c == scenario.target_message) && nat_le (tables.times.least_settling c g) tick) (nat_le tick (tables.times.greatest_settling c g))
        (and_from (not (c == scenario.target_message)) (nat_le (tables.times.least_settling c g) tick) (differ c scenario.target_message other)
        (le-leb (tables.times.least_settling c g) tick (omega arith)))
        (le-leb tick (tables.times.greatest_settling c g) (omega arith)) in
        let r = add_has scenario tables sure barring tick starts pair test in (
          r.0,
          r.1,
          elim r.2 [
            | inl old ↦ let sooner = by r.0 old.0 in covering r.0 new c g old.1 (omega arith) is
            | inr same ↦ subst (λ (k : Start). IsFor c g k) same is
          ],
        )

    all_has : (starts : List Start) (pairs : List Pair) → HaveStarts starts tick → AreBy starts tick → (c g : ℕ) → IsIn (pair_of c g) pairs → GoesTo scenario c g
        → c ≢ scenario.target_message → settle scenario schedule c g ≡ tick
        → (s : Start) × IsIn s (fold one starts pairs) × IsFor c g s
    all_has starts [] have by c g i goes other at = absurd i
    all_has starts (p ∷ ps) have by c g (inl e) goes other at =
        let r = has_start starts have by c g goes other at in
        (r.0, all_stay scenario tables sure barring tick (one starts p) ps r.0 (subst (λ (q : Pair). IsIn r.0 (one starts q)) (sym e) r.1), r.2)
    all_has starts (p ∷ ps) have by c g (inr i) goes other at =
        all_has (one starts p) ps (still starts p have) (add_by starts p by) c g i goes other at

  start_by : (barring : Bool) (tick : ℕ) → AreBy (starts_before scenario tables sure barring tick) tick
  start_by barring zero s i = absurd i
  start_by barring (suc tick) s i =
      let l = all_by barring tick (starts_before scenario tables sure barring tick) (pairs_of scenario) (start_by barring tick) s i in
      omega arith

  pub have_starts : (barring : Bool) (tick : ℕ) → HaveStarts (starts_before scenario tables sure barring tick) tick
  have_starts barring zero c g goes other l = absurd (omega arith)
  have_starts barring (suc tick) c g goes other l =
      let starts : List Start = starts_before scenario tables sure barring tick in
      elim (cases_lt (settle scenario schedule c g) tick) [
        | inl before ↦
            let r = have_starts barring tick c g goes other before in
            (r.0, all_stay scenario tables sure barring tick starts (pairs_of scenario) r.0 r.1, r.2)
        | inr now ↦
            all_has barring tick starts (pairs_of scenario) (have_starts barring tick) (start_by barring tick) c g (in-pairs scenario (pair_of c g) goes) goes other (omega arith)
      ]
