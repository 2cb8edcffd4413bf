-- What is sure by tables is so, and no less, by tables that allow less: leads are computed in an order in which each is known when it is asked for.
use Rattle.std.proofs.Common.{◌≡◌, ℕ, zero, suc, ◌+◌, ◌*◌, ◌<◌, ◌≤◌, max, min, Bool, true, false, ◌==◌, nat_lt, nat_le, inl, inr, List, [], ◌∷◌, length, map, filter, replicate, get_or, fold, refl, sym, subst, ◌∙◌, arith}
use Rattle.std.specs.List.{range_with_len}
use Rattle.std.proofs.lemmas.List.{get_or-set_same, length-set, length-replicate}
use Rattle.std.proofs.lemmas.Bool.{cases_Bool, cases_lt, cond-true, cond-false, eq-eqb, ne_eqb, eqb-true, le-leb, leb-true, ltb-true, both_ways}
use Rattle.convoy_draft.specs.declared.limits.TheConstants.{MOST_GROUPS}
use Rattle.convoy_scenario.specs.Scenario.{Scenario, message_at, GoesTo}
use Rattle.convoy_scenario.specs.WellFormed.{IsScenario}
use Rattle.convoy_packets.specs.Order.{place}
use Rattle.convoy_sim.specs.Times.{greatest}
use Rattle.convoy_sim.specs.Delivery.{addressed_to}
use Rattle.convoy_sim.proofs.Membership.{IsIn, in-filter, in_of_filter, in_greatest, greatest_most}
use Rattle.convoy_sim.proofs.Addressed.{goes_from_in, goes_of_addressed, number_of_goes}
use Rattle.convoy_intervals.specs.Bounds.{Tables}
use Rattle.convoy_stamps.specs.declared.pair.Pair.{Pair}
use Rattle.convoy_stamps.specs.Reach.{IsPair, pair_of}
use Rattle.convoy_stamps.proofs.Counting.{length-in}
use Rattle.convoy_sure.specs.Windows.{LeadTables}
use Rattle.convoy_sure.specs.SureLeads.{is_first, is_earlier, is_later, sure_after, sure_later, sure_behind, lead_at, with_number, top_of, pair_count, top_behind, next_lead, with_lead, last_first, first_leads, leads_of, sure_time}
use Rattle.convoy_sure.proofs.SureLaws.{set_cases, same_place, group_is_low}
use Rattle.convoy_laws.proofs.Among.{AreAmong, among_itself, among_passed, among_chosen, no_fewer, least_is_one}
use Rattle.convoy_laws.proofs.Firsts.{earlier_too, first_by_tick, first_of_earlier}
use Rattle.convoy_laws.proofs.LastFirst.{AreLastFirst, later_one_way, is_last_first, in-last_first, pair_of_last_first}
use Rattle.convoy_laws.proofs.NarrowTables.{lt_apart}
use Rattle.convoy_laws.proofs.TighterWindows.{IsTighter, IsOpen}

-- ---- numbers
pub some_from : (n : ℕ) → (n == 0) ≡ false → 0 < n
some_from n e = elim (cases_lt 0 n) [ inl l ↦ l | inr l ↦ absurd (both_ways (n == 0) e (eq-eqb n 0 (omega arith))) ]

none_from : (n : ℕ) → 0 < n → (n == 0) ≡ false
none_from n l = ne_eqb n 0 (λ e. omega (arith, e))

within_limit : (limit value : ℕ) → min limit value ≤ limit
within_limit limit value = omega arith

old_within : (limit old top : ℕ) → old ≤ limit → old ≤ min limit (max old top)
old_within limit old top l = omega arith

settled_within : (limit old top new less : ℕ) → less ≤ top → min limit (max old top) ≤ new → min limit (max new less) ≤ new
settled_within limit old top new less low l = omega arith

next_lead_rises : (limit old top new more : ℕ) → old ≤ new → top ≤ more → min limit (max old top) ≤ min limit (max new more)
next_lead_rises limit old top new more low l = omega arith

-- ---- tops
module _ (less more : ℕ → ℕ) (few many : List ℕ) (among : AreAmong few many) (rise : (z : ℕ) → IsIn z few → less z ≤ more z) where
  -- among those past a lead, the one of the least lead has as many that are no less
  one_rises : (z : ℕ) → IsIn z few → with_number less few z ≤ top_of more many
  one_rises z i =
      let past : ℕ → Bool = λ w. nat_le (less z) (less w) in
      let high : ℕ → Bool = λ w. nat_le (less z) (more w) in
      elim (cases_Bool (less z == 0)) [
        | inl e ↦ omega (arith, cond-true (less z == 0) 0 (less z + length (filter past few)) e)
        | inr e ↦
            let some : 0 < less z = some_from (less z) e in
            let count : length (filter past few) ≤ length (filter high many) = among.counts past high (λ w j t.
            let low = leb-true (less z) (less w) t in
            let up = rise w j in
            le-leb (less z) (more w) (omega arith)) in
            let own : 0 < length (filter past few) = length-in z (filter past few) (in-filter past z few i (le-leb (less z) (less z) (omega arith))) in
            let r = least_is_one more (filter high many) (omega arith) in
            let w : ℕ = r.0 in
            let at = in_of_filter high w many r.1 in
            let low : less z ≤ more w = leb-true (less z) (more w) at.1 in
            let past_w : ℕ → Bool = λ v. nat_le (more w) (more v) in
            let all : length (filter high many) ≤ length (filter past_w many) =
            no_fewer high past_w many (λ v j t. le-leb (more w) (more v) (r.2 v (in-filter high v many j t))) in
            let most : with_number more many w ≤ top_of more many = in_greatest (with_number more many) w many at.0 in
            let value = cond-false (more w == 0) 0 (more w + length (filter past_w many)) (none_from (more w) (omega arith)) in
            omega (arith, value, cond-false (less z == 0) 0 (less z + length (filter past few)) e)
      ]

  pub top_rises : top_of less few ≤ top_of more many
  top_rises = greatest_most (with_number less few) (top_of more many) few one_rises

-- ---- leads by one kind of tables
module _ (scenario : Scenario) (tables : Tables) (well : IsScenario scenario) where
  abbrev pub limit : ℕ
  limit = pair_count scenario + 1

  abbrev pub AreSmall : List ℕ → Type 0
  AreSmall leads = (i : ℕ) → get_or leads i 0 ≤ limit

  abbrev pub ArePairs : List Pair → Type 0
  ArePairs ps = (r : Pair) → IsIn r ps → IsPair scenario r

  -- the greatest top behind a pair
  abbrev pub behind : List ℕ → Pair → ℕ
  behind leads p = greatest (map (top_behind scenario tables leads p) (message_at scenario p.message).destinations)

  with_small : (leads : List ℕ) (p : Pair) → AreSmall leads → AreSmall (with_lead scenario tables leads p)
  with_small leads p small i =
      let value : ℕ = next_lead scenario tables leads p in
      elim (set_cases leads (place p.message p.group) i value) [
        | inl e ↦ subst (λ v. v ≤ limit) (sym e.1) (within_limit limit (max (lead_at leads p.message p.group) (behind leads p)))
        | inr e ↦ subst (λ v. v ≤ limit) (sym e) (small i)
      ]

  with_rises : (leads : List ℕ) (p : Pair) → AreSmall leads → (i : ℕ) → get_or leads i 0 ≤ get_or (with_lead scenario tables leads p) i 0
  with_rises leads p small i =
      let value : ℕ = next_lead scenario tables leads p in
      elim (set_cases leads (place p.message p.group) i value) [
        | inl e ↦ subst (λ v. get_or leads i 0 ≤ v) (sym e.1) (subst (λ j. get_or leads j 0 ≤ value) e.0
            (old_within limit (lead_at leads p.message p.group) (behind leads p) (small (place p.message p.group))))
        | inr e ↦ subst (λ v. get_or leads i 0 ≤ v) (sym e) (omega arith)
      ]

  all_rise : (leads : List ℕ) (ps : List Pair) → AreSmall leads → (i : ℕ) → get_or leads i 0 ≤ get_or (fold (with_lead scenario tables) leads ps) i 0
  all_rise leads [] small i = omega arith
  all_rise leads (p ∷ ps) small i =
      let one = with_rises leads p small i in
      let rest = all_rise (with_lead scenario tables leads p) ps (with_small leads p small) i in
      omega arith

  -- a lead stays where no pair that follows is that of it
  lead_stays : (z y : ℕ) → y < MOST_GROUPS → (leads : List ℕ) (ps : List Pair) → ArePairs ps
      → ((r : Pair) → IsIn r ps → r.message ≡ z → r.group ≡ y → ⊥)
      → lead_at (fold (with_lead scenario tables) leads ps) z y ≡ lead_at leads z y
  lead_stays z y low leads [] pairs other = refl
  lead_stays z y low leads (p ∷ ps) pairs other =
      lead_stays z y low (with_lead scenario tables leads p) ps (λ r i. pairs r (inr i)) (λ r i. other r (inr i)) ∙ one where
        one : lead_at (with_lead scenario tables leads p) z y ≡ lead_at leads z y
        one = elim (set_cases leads (place p.message p.group) (place z y) (next_lead scenario tables leads p)) [
          | inr e ↦ e
          | inl e ↦
              let same = same_place p.message p.group z y (group_is_low scenario well p.message p.group (pairs p (inl refl))) low e.0 in
              absurd (other p (inl refl) same.0 same.1)
        ]

  module _ (can : IsOpen scenario tables) where
    -- what surely arrives behind a pair is later than it in the order of leads
    behind_is_later : (q : Pair) (y z : ℕ) → IsPair scenario q → GoesTo scenario q.message y → IsIn z (sure_behind scenario tables q.message q.group y)
        → GoesTo scenario z y × (is_later tables (pair_of z y) q ≡ true)
    behind_is_later q y z is goes i =
        let g : ℕ = q.group in
        let last : ℕ = tables.greatest_arrival q.message g in
        let after : List ℕ = sure_after scenario tables last q.message g in
        let past : List ℕ = sure_later scenario tables (tables.greatest_settling q.message y) y in
        elim (cases_Bool (y == g)) [
          | inl e ↦
              let same : y ≡ g = eqb-true y g e in
              let r = in_of_filter (λ w. is_earlier scenario.time last q.message (tables.least_arrival w g) w) z (addressed_to scenario g)
              (subst (IsIn z) (cond-true (y == g) after past e) i) in
              let to : GoesTo scenario z g = goes_of_addressed scenario z g r.0 in
              let first : is_later tables (pair_of z g) q ≡ true =
              first_of_earlier scenario.time last (tables.least_arrival z g) (tables.greatest_arrival z g) q.message z (can.arrival z g) r.1 in
              (subst (λ k. GoesTo scenario z k) (sym same) to, subst (λ k. is_later tables (pair_of z k) q ≡ true) (sym same) first)
          | inr e ↦
              let r = in_of_filter (λ w. nat_lt (tables.greatest_settling q.message y) (tables.least_arrival w y)) z (addressed_to scenario y)
              (subst (IsIn z) (cond-false (y == g) after past e) i) in
              let sure = ltb-true (tables.greatest_settling q.message y) (tables.least_arrival z y) r.1 in
              let own = can.commit q.message g y is goes in
              let come = can.arrival z y in
              (goes_of_addressed scenario z y r.0, first_by_tick last q.message (tables.greatest_arrival z y) z (omega arith))
        ]

    later_as : (q r : Pair) (z y : ℕ) → r.message ≡ z → r.group ≡ y → is_later tables (pair_of z y) q ≡ true → is_later tables r q ≡ true
    later_as q r z y m g t =
        let last : ℕ = tables.greatest_arrival q.message q.group in
        subst (λ k. is_first last q.message (tables.greatest_arrival r.message k) r.message ≡ true) (sym g)
        (subst (λ k. is_first last q.message (tables.greatest_arrival k y) k ≡ true) (sym m) t)

    -- the leads that were asked for at the first pair are not changed any more
    behind_stays : (leads : List ℕ) (q : Pair) (qs : List Pair) → AreLastFirst tables (q ∷ qs) → ArePairs (q ∷ qs)
        → behind (fold (with_lead scenario tables) leads (q ∷ qs)) q ≤ behind leads q
    behind_stays leads q qs sorted pairs =
        let final : List ℕ = fold (with_lead scenario tables) leads (q ∷ qs) in
        let to : List ℕ = (message_at scenario q.message).destinations in
        greatest_most (top_behind scenario tables final q) (behind leads q) to (λ y i.
        let goes : GoesTo scenario q.message y = goes_from_in scenario q.message y i in
        let zs : List ℕ = sure_behind scenario tables q.message q.group y in
        let one : top_of (λ z. lead_at final z y) zs ≤ top_of (λ z. lead_at leads z y) zs =
        top_rises (λ z. lead_at final z y) (λ z. lead_at leads z y) zs zs (among_itself zs) (λ z j.
        let l = behind_is_later q y z (pairs q (inl refl)) goes j in
        let same = lead_stays z y (group_is_low scenario well z y l.0) leads (q ∷ qs) pairs (λ r k m g. elim k [
          | inl s ↦ let t = later_as q r z y m g l.1 in
              later_one_way tables q q (subst (λ (x : Pair). is_later tables x q ≡ true) (sym s) t) (subst (λ (x : Pair). is_later tables x q ≡ true) (sym s) t)
          | inr k ↦ sorted.0 r k (later_as q r z y m g l.1)
        ]) in
        omega (arith, same)) in
        let most : top_behind scenario tables leads q y ≤ behind leads q = in_greatest (top_behind scenario tables leads q) y to i in
        omega arith)

    -- each lead of the last table is what it becomes by that table
    settled : (leads : List ℕ) (ps : List Pair) → AreLastFirst tables ps → ArePairs ps → AreSmall leads → length leads ≡ length scenario.multicasts * MOST_GROUPS
        → (p : Pair) → IsIn p ps
        → next_lead scenario tables (fold (with_lead scenario tables) leads ps) p ≤ lead_at (fold (with_lead scenario tables) leads ps) p.message p.group
    settled leads [] sorted pairs small long p i = absurd i
    settled leads (q ∷ qs) sorted pairs small long p (inr i) =
        settled (with_lead scenario tables leads q) qs sorted.1 (λ r j. pairs r (inr j)) (with_small leads q small)
        (length-set leads (place q.message q.group) (next_lead scenario tables leads q) ∙ long) p i
    settled leads (q ∷ qs) sorted pairs small long p (inl e) =
        let final : List ℕ = fold (with_lead scenario tables) leads (q ∷ qs) in
        let at : ℕ = place q.message q.group in
        let value : ℕ = next_lead scenario tables leads q in
        let known = number_of_goes scenario q.message q.group (pairs q (inl refl)) in
        let low = group_is_low scenario well q.message q.group (pairs q (inl refl)) in
        let told : value ≤ lead_at final q.message q.group =
        subst (λ v. v ≤ lead_at final q.message q.group) (get_or-set_same leads at value 0 (omega (arith, long)))
        (all_rise (with_lead scenario tables leads q) qs (with_small leads q small) at) in
        subst (λ (r : Pair). next_lead scenario tables final r ≤ lead_at final r.message r.group) e
        (settled_within limit (lead_at leads q.message q.group) (behind leads q) (lead_at final q.message q.group) (behind final q)
        (behind_stays leads q qs sorted pairs) told)

    same_at : (k i z : ℕ) → get_or (replicate k z) i z ≡ z
    same_at zero i z = refl
    same_at (suc k) zero z = refl
    same_at (suc k) (suc i) z = same_at k i z

    first_small : (n : ℕ) → AreSmall (first_leads scenario n)
    first_small n i =
        let none : List ℕ = replicate (length scenario.multicasts * MOST_GROUPS) 0 in
        elim (set_cases none (place n scenario.target_group) i 1) [
          | inl e ↦ omega (arith, e.1)
          | inr e ↦ omega (arith, e, same_at (length scenario.multicasts * MOST_GROUPS) i 0)
        ]

    pub leads_settled : (n : ℕ) (p : Pair) → IsPair scenario p → next_lead scenario tables (leads_of scenario tables n) p ≤ lead_at (leads_of scenario tables n) p.message p.group
    unfolding leads_of
    leads_settled n p is =
        settled (first_leads scenario n) (last_first scenario tables) (is_last_first tables scenario) (pair_of_last_first tables scenario) (first_small n)
        (length-set (replicate (length scenario.multicasts * MOST_GROUPS) 0) (place n scenario.target_group) 1 ∙ length-replicate (length scenario.multicasts * MOST_GROUPS) 0)
        p (in-last_first tables scenario p is)

    pub first_within : (n i : ℕ) → get_or (first_leads scenario n) i 0 ≤ get_or (leads_of scenario tables n) i 0
    unfolding leads_of
    first_within n i = all_rise (first_leads scenario n) (last_first scenario tables) (first_small n) i

-- ---- by tables and by those that allow less
module _ (scenario : Scenario) (outer inner : LeadTables) (tight : IsTighter outer inner) where
  pub after_among : (tick sooner q g : ℕ) → sooner ≤ tick → AreAmong (sure_after scenario outer.times tick q g) (sure_after scenario inner.times sooner q g)
  after_among tick sooner q g soon =
      among_passed (λ z. is_earlier scenario.time tick q (outer.times.least_arrival z g) z) (λ z. is_earlier scenario.time sooner q (inner.times.least_arrival z g) z)
      (addressed_to scenario g) (λ z i t.
      earlier_too scenario.time tick sooner (outer.times.least_arrival z g) (inner.times.least_arrival z g) q z soon (tight.arrival_low z g) t)

  pub later_among : (tick sooner y : ℕ) → sooner ≤ tick → AreAmong (sure_later scenario outer.times tick y) (sure_later scenario inner.times sooner y)
  later_among tick sooner y soon =
      among_passed (λ z. nat_lt tick (outer.times.least_arrival z y)) (λ z. nat_lt sooner (inner.times.least_arrival z y))
      (addressed_to scenario y) (λ z i t.
      lt_apart tick (outer.times.least_arrival z y) sooner (inner.times.least_arrival z y) soon (tight.arrival_low z y) t)

  behind_among : (q g y : ℕ) → AreAmong (sure_behind scenario outer.times q g y) (sure_behind scenario inner.times q g y)
  behind_among q g y =
      among_chosen (y == g)
      (sure_after scenario outer.times (outer.times.greatest_arrival q g) q g) (sure_after scenario inner.times (inner.times.greatest_arrival q g) q g)
      (sure_later scenario outer.times (outer.times.greatest_settling q y) y) (sure_later scenario inner.times (inner.times.greatest_settling q y) y)
      (after_among (outer.times.greatest_arrival q g) (inner.times.greatest_arrival q g) q g (tight.arrival_high q g))
      (later_among (outer.times.greatest_settling q y) (inner.times.greatest_settling q y) y (tight.settling_high q y))

  module _ (well : IsScenario scenario) (can : IsOpen scenario inner.times) (n : ℕ) where
    abbrev pub final : List ℕ
    final = leads_of scenario inner.times n

    AreLess : List ℕ → Type 0
    AreLess leads = (i : ℕ) → get_or leads i 0 ≤ get_or final i 0

    with_less : (leads : List ℕ) (p : Pair) → IsPair scenario p → AreLess leads → AreLess (with_lead scenario outer.times leads p)
    unfolding AreLess
    with_less leads p is less i =
        let value : ℕ = next_lead scenario outer.times leads p in
        let to : List ℕ = (message_at scenario p.message).destinations in
        let top : greatest (map (top_behind scenario outer.times leads p) to) ≤ greatest (map (top_behind scenario inner.times final p) to) =
        greatest_most (top_behind scenario outer.times leads p) (greatest (map (top_behind scenario inner.times final p) to)) to (λ y j.
        let one : top_behind scenario outer.times leads p y ≤ top_behind scenario inner.times final p y =
        top_rises (λ z. lead_at leads z y) (λ z. lead_at final z y)
        (sure_behind scenario outer.times p.message p.group y) (sure_behind scenario inner.times p.message p.group y)
        (behind_among p.message p.group y) (λ z k. less (place z y)) in
        let most = in_greatest (top_behind scenario inner.times final p) y to j in
        omega arith) in
        let next : value ≤ next_lead scenario inner.times final p =
        next_lead_rises (pair_count scenario + 1) (lead_at leads p.message p.group) (greatest (map (top_behind scenario outer.times leads p) to))
        (lead_at final p.message p.group) (greatest (map (top_behind scenario inner.times final p) to)) (less (place p.message p.group)) top in
        let last = leads_settled scenario inner.times well can n p is in
        elim (set_cases leads (place p.message p.group) i value) [
          | inl e ↦ subst (λ v. v ≤ get_or final i 0) (sym e.1) (subst (λ j. value ≤ get_or final j 0) e.0 (omega arith))
          | inr e ↦ subst (λ v. v ≤ get_or final i 0) (sym e) (less i)
        ]

    all_less : (leads : List ℕ) (ps : List Pair) → ((p : Pair) → IsIn p ps → IsPair scenario p) → AreLess leads
        → AreLess (fold (with_lead scenario outer.times) leads ps)
    all_less leads [] pairs less = less
    all_less leads (p ∷ ps) pairs less =
        all_less (with_lead scenario outer.times leads p) ps (λ q i. pairs q (inr i)) (with_less leads p (pairs p (inl refl)) less)

    pub leads_rise : (m g : ℕ) → lead_at (leads_of scenario outer.times n) m g ≤ lead_at (leads_of scenario inner.times n) m g
    unfolding leads_of AreLess
    leads_rise m g =
        all_less (first_leads scenario n) (last_first scenario outer.times) (pair_of_last_first outer.times scenario)
        (first_within scenario inner.times well can n) (place m g)

    pub time_rises : sure_time scenario (leads_of scenario outer.times n) ≤ sure_time scenario (leads_of scenario inner.times n)
    unfolding sure_time
    time_rises =
        let wide : List ℕ = leads_of scenario outer.times n in
        let old : ℕ → ℕ = λ g. top_of (λ z. lead_at wide z g) (addressed_to scenario g) in
        let new : ℕ → ℕ = λ g. top_of (λ z. lead_at final z g) (addressed_to scenario g) in
        let groups : List ℕ = range_with_len 0 (length scenario.groups) in
        let all : greatest (map old groups) ≤ greatest (map new groups) = greatest_most old (greatest (map new groups)) groups (λ g i.
        let one : old g ≤ new g =
        top_rises (λ z. lead_at wide z g) (λ z. lead_at final z g) (addressed_to scenario g) (addressed_to scenario g) (among_itself (addressed_to scenario g)) (λ z j. leads_rise z g) in
        let most : new g ≤ greatest (map new groups) = in_greatest new g groups i in
        omega arith) in
        omega arith
