-- Reaches over narrower tables are smaller, and more messages surely arrive before another one: so what is surely behind the target stays so.
use Rattle.std.proofs.Common.{◌≡◌, ℕ, ◌+◌, ◌≤◌, nat_le, nat_lt, ◌==◌, true, ◌&&◌, ◌||◌, not, inl, inr, List, [], ◌∷◌, length, map, fold, refl, subst, arith}
use Rattle.std.specs.List.{Contains}
use Rattle.std.proofs.lemmas.Bool.{cases_Bool, and_from, and_parts, or_cases, or_left, or_right, eqb-true}
use Rattle.std.proofs.lemmas.Bool.Decides.{nat_tests}
use Rattle.convoy_draft.specs.declared.time.Time.{Time}
use Rattle.convoy_scenario.specs.Scenario.{Scenario, message_at, is_addressed, GoesTo}
use Rattle.convoy_scenario.specs.WellFormed.{IsScenario}
use Rattle.convoy_sim.specs.declared.timestamp.Timestamp.{Timestamp}
use Rattle.convoy_sim.specs.Moments.{next_arrival}
use Rattle.convoy_sim.specs.Stamps.{is_less, later, no_stamp}
use Rattle.convoy_sim.specs.Delivery.{addressed_to}
use Rattle.convoy_sim.proofs.Membership.{IsIn, in-filter, in_of_filter, in-map, in_of_map, contains-in, in_of_contains}
use Rattle.convoy_sim.proofs.Addressed.{goes_from_in, goes_of_addressed}
use Rattle.convoy_intervals.specs.Bounds.{Tables}
use Rattle.convoy_stamps.specs.declared.pair.Pair.{Pair}
use Rattle.convoy_stamps.specs.Closures.{is_follower, reached_after}
use Rattle.convoy_stamps.specs.Reach.{pair_of, IsPair, pairs_of, may_precede, may_raise, leads_to, follows, reach_of}
use Rattle.convoy_stamps.specs.StampBounds.{sure_before, lowest_stamp, highest_stamp, highest_final, is_surely_behind}
use Rattle.convoy_stamps.specs.StampBoundLaws.{ReachIsClosed, ReachIsLeast}
use Rattle.convoy_stamps.proofs.Arrivals.{next_rises}
use Rattle.convoy_stamps.proofs.GreatestStamps.{fold_later_first, less_by_greatest}
use Rattle.convoy_stamps.proofs.Pairs.{goes_of_pair}
use Rattle.convoy_laws.specs.Narrower.{AreNarrower}
use Rattle.convoy_laws.proofs.Among.{no_fewer}
use Rattle.convoy_laws.proofs.NarrowTables.{le_apart, lt_apart}

-- ---- comparisons of stamps
less_lower : (low high h : ℕ) (s : Timestamp) → low ≤ high → is_less (record { time = high; group = h }) s ≡ true → is_less (record { time = low; group = h }) s ≡ true
less_lower low high h s l t = grind (arith, nat_tests, l, t)

less_higher : (low high g : ℕ) (s : Timestamp) → low ≤ high → is_less s (record { time = low; group = g }) ≡ true → is_less s (record { time = high; group = g }) ≡ true
less_higher low high g s l t = grind (arith, nat_tests, l, t)

later_less : (a b s : Timestamp) → is_less a s ≡ true → is_less b s ≡ true → is_less (later a b) s ≡ true
later_less a b s h k = elim (cases_Bool (is_less a b)) [ inl e ↦ rw e k | inr e ↦ rw e h ]

-- what is above each is above the greatest
greatest_less : (a s : Timestamp) (xs : List Timestamp) → is_less a s ≡ true → ((x : Timestamp) → IsIn x xs → is_less x s ≡ true) → is_less (fold later a xs) s ≡ true
greatest_less a s [] h each = h
greatest_less a s (x ∷ xs) h each = greatest_less (later a x) s xs (later_less a x s h (each x (inl refl))) (λ y i. each y (inr i))

module _ (closed : ReachIsClosed) (least : ReachIsLeast) (scenario : Scenario) (outer inner : Tables) (well : IsScenario scenario) (narrow : AreNarrower scenario outer inner) where
  precedes_too : (pair next : Pair) → IsPair scenario pair → IsPair scenario next → may_precede inner pair next ≡ true → may_precede outer pair next ≡ true
  precedes_too pair next here there h =
      let r = and_parts (next.group == pair.group) (nat_le (inner.least_arrival next.message pair.group) (inner.greatest_arrival pair.message pair.group)) h in
      let goes : GoesTo scenario next.message pair.group = subst (λ k. GoesTo scenario next.message k) (eqb-true next.group pair.group r.0) there in
      and_from (next.group == pair.group) (nat_le (outer.least_arrival next.message pair.group) (outer.greatest_arrival pair.message pair.group)) r.0
      (le_apart (inner.least_arrival next.message pair.group) (inner.greatest_arrival pair.message pair.group) (outer.least_arrival next.message pair.group) (outer.greatest_arrival pair.message pair.group)
      (narrow.arrival_low next.message pair.group goes) (narrow.arrival_high pair.message pair.group here) r.1)

  raises_too : (pair next : Pair) → IsPair scenario pair → may_raise scenario inner pair next ≡ true → may_raise scenario outer pair next ≡ true
  raises_too pair next here h =
      let time : Time = scenario.time in
      let low : ℕ = outer.least_settling next.message pair.group in
      let high : ℕ = inner.least_settling next.message pair.group in
      let r = and_parts (is_addressed (message_at scenario next.message) pair.group) (nat_le (next_arrival time high) (inner.greatest_arrival pair.message pair.group)) h in
      and_from (is_addressed (message_at scenario next.message) pair.group) (nat_le (next_arrival time low) (outer.greatest_arrival pair.message pair.group)) r.0
      (le_apart (next_arrival time high) (inner.greatest_arrival pair.message pair.group) (next_arrival time low) (outer.greatest_arrival pair.message pair.group)
      (next_rises time low high (narrow.settling_low next.message pair.group r.0)) (narrow.arrival_high pair.message pair.group here) r.1)

  leads_too : (m : ℕ) (pair next : Pair) → IsPair scenario pair → IsPair scenario next → leads_to scenario inner m pair next ≡ true → leads_to scenario outer m pair next ≡ true
  leads_too m pair next here there h =
      let r = and_parts (not (next.message == pair.message)) (may_precede inner pair next || (not (next.message == m) && may_raise scenario inner pair next)) h in
      and_from (not (next.message == pair.message)) (may_precede outer pair next || (not (next.message == m) && may_raise scenario outer pair next)) r.0
      (elim (or_cases (may_precede inner pair next) (not (next.message == m) && may_raise scenario inner pair next) r.1) [
        | inl before ↦ or_left (may_precede outer pair next) (not (next.message == m) && may_raise scenario outer pair next) (precedes_too pair next here there before)
        | inr raise ↦
            let s = and_parts (not (next.message == m)) (may_raise scenario inner pair next) raise in
            or_right (may_precede outer pair next) (not (next.message == m) && may_raise scenario outer pair next)
            (and_from (not (next.message == m)) (may_raise scenario outer pair next) s.0 (raises_too pair next here s.1))
      ])

  -- what a reach has are pairs of the scenario
  reach_pair : (tables : Tables) (m g : ℕ) (pair : Pair) → IsIn pair (reach_of scenario tables m g) → IsPair scenario pair
  unfolding reach_of
  reach_pair tables m g pair i =
      let all : List Pair = pairs_of scenario in
      goes_of_pair scenario pair (in_of_filter (is_follower (follows scenario tables m) (reached_after (follows scenario tables m) all (pair_of m g) (length all))) pair all i).0

  reach_too : (m g : ℕ) → GoesTo scenario m g → (pair : Pair) → IsIn pair (reach_of scenario inner m g) → IsIn pair (reach_of scenario outer m g)
  reach_too m g goes pair i =
      let wide : List Pair = reach_of scenario outer m g in
      let whole = closed scenario outer m g goes in
      let step = λ (a b : Pair) (has : Contains wide a) (is : IsPair scenario b) (h : leads_to scenario inner m a b ≡ true).
      whole.1 a b has is (leads_too m a b (reach_pair outer m g a (in_of_contains a wide has)) is h) in
      in_of_contains pair wide (least scenario inner m g wide goes whole.0 step pair (contains-in pair (reach_of scenario inner m g) i))

  reach_falls : (m g : ℕ) → GoesTo scenario m g → length (reach_of scenario inner m g) ≤ length (reach_of scenario outer m g)
  unfolding reach_of
  reach_falls m g goes =
      let all : List Pair = pairs_of scenario in
      let p = is_follower (follows scenario inner m) (reached_after (follows scenario inner m) all (pair_of m g) (length all)) in
      let q = is_follower (follows scenario outer m) (reached_after (follows scenario outer m) all (pair_of m g) (length all)) in
      no_fewer p q all (λ pair i h. (in_of_filter q pair all (reach_too m g goes pair (in-filter p pair all i h))).1)

  sure_rises : (g n : ℕ) → GoesTo scenario n g → length (sure_before scenario outer g n) ≤ length (sure_before scenario inner g n)
  sure_rises g n goes =
      no_fewer (λ q. not (q == n) && nat_lt (outer.greatest_arrival q g) (outer.least_arrival n g)) (λ q. not (q == n) && nat_lt (inner.greatest_arrival q g) (inner.least_arrival n g))
      (addressed_to scenario g) (λ q i h.
      let r = and_parts (not (q == n)) (nat_lt (outer.greatest_arrival q g) (outer.least_arrival n g)) h in
      and_from (not (q == n)) (nat_lt (inner.greatest_arrival q g) (inner.least_arrival n g)) r.0
      (lt_apart (outer.greatest_arrival q g) (outer.least_arrival n g) (inner.greatest_arrival q g) (inner.least_arrival n g)
      (narrow.arrival_high q g (goes_of_addressed scenario q g i)) (narrow.arrival_low n g goes) r.1))

  -- what is above the highest final stamp by the outer tables is above that by the inner ones
  final_falls : (s : Timestamp) → is_less (highest_final scenario outer) s ≡ true → is_less (highest_final scenario inner) s ≡ true
  final_falls s h =
      let t : ℕ = scenario.target_message in
      let to : List ℕ = (message_at scenario t).destinations in
      greatest_less no_stamp s (map (highest_stamp scenario inner t) to)
      (fold_later_first no_stamp s (map (highest_stamp scenario outer t) to) h) (λ x i.
      let r = in_of_map (highest_stamp scenario inner t) x to i in
      let wide = less_by_greatest no_stamp s (highest_stamp scenario outer t r.0) (map (highest_stamp scenario outer t) to) h (in-map (highest_stamp scenario outer t) r.0 to r.1) in
      subst (λ y. is_less y s ≡ true) r.2
      (less_lower (length (reach_of scenario inner t r.0)) (length (reach_of scenario outer t r.0)) r.0 s (reach_falls t r.0 (goes_from_in scenario t r.0 r.1)) wide))

  pub behind_too : (n : ℕ) → GoesTo scenario n scenario.target_group → is_surely_behind scenario outer n ≡ true → is_surely_behind scenario inner n ≡ true
  behind_too n goes h =
      let g : ℕ = scenario.target_group in
      final_falls (lowest_stamp scenario inner n g)
      (less_higher (1 + length (sure_before scenario outer g n)) (1 + length (sure_before scenario inner g n)) g (highest_final scenario outer)
      (let more = sure_rises g n goes in omega arith) h)
