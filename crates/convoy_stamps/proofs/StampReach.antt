-- Local stamps within their reach, and past those that surely arrive before.
use Rattle.std.proofs.Common.{◌≡◌, ℕ, ◌+◌, ◌-◌, ◌<◌, ◌≤◌, zero, suc, Bool, true, false, ◌==◌, ◌||◌, ◌&&◌, not, nat_lt, nat_le, inl, inr, length, refl, subst, arith}
use Rattle.std.proofs.lemmas.Bool.{cases_lt, and_from, and_parts, or_left, or_right, or_cases, eq-eqb, eqb-true, ltb-true, le-leb, not_from_false, false_from_ne_true}
use Rattle.convoy_scenario.specs.Scenario.{Scenario, message_at, is_addressed, GoesTo}
use Rattle.convoy_scenario.specs.WellFormed.{IsScenario}
use Rattle.convoy_packets.specs.Assignment.{Schedule}
use Rattle.convoy_sim.specs.Times.{arrive, settle}
use Rattle.convoy_sim.specs.Moments.{is_before, arrival_of, commit_of, next_arrival}
use Rattle.convoy_sim.specs.Stamps.{local_stamp}
use Rattle.convoy_sim.specs.Delivery.{addressed_to}
use Rattle.convoy_sim.specs.ProtocolLaws.{StampsRise}
use Rattle.convoy_sim.specs.RaiseLaws.{LastRaise, IsLastRaise, IsRaise, IsCounted}
use Rattle.convoy_sim.proofs.Membership.{IsIn, in_of_contains, contains-in, in_of_filter}
use Rattle.convoy_sim.proofs.Addressed.{goes_of_addressed}
use Rattle.convoy_sim.proofs.MomentsOrder.{before_by_tick, before_chain, before_itself, before_one_way, before_trans}
use Rattle.convoy_sim.proofs.MomentTicks.{tick_of_before, tick_of_commit}
use Rattle.convoy_intervals.specs.Bounds.{Tables, Encloses}
use Rattle.convoy_stamps.specs.declared.pair.Pair.{Pair}
use Rattle.convoy_stamps.specs.Reach.{pair_of, IsPair, pairs_of, is_same, leads_to, may_precede, may_raise, follows, reach_of}
use Rattle.convoy_stamps.specs.StampBounds.{sure_before}
use Rattle.convoy_stamps.specs.StampBoundLaws.{ReachIsClosed, ReachIsLeast}
use Rattle.convoy_stamps.proofs.Arrivals.{arrives_before_other, arrives_first, committed_is_other, next_rises, once-addressed, one_time, stamp_positive}
use Rattle.convoy_stamps.proofs.Closed.{start_in, closed, least}
use Rattle.convoy_stamps.proofs.Counting.{at_least, at_most, once-filter}
use Rattle.convoy_stamps.proofs.Pairs.{in-pairs, goes_of_pair, pair_itself, same_pair}

-- ---- the reach
pub follows_itself : (scenario : Scenario) (tables : Tables) (m : ℕ) (pair : Pair) → follows scenario tables m pair pair ≡ true
follows_itself scenario tables m pair = or_left (is_same pair pair) (leads_to scenario tables m pair pair) (pair_itself pair)

start_in_reach : (scenario : Scenario) (tables : Tables) (m g : ℕ) → GoesTo scenario m g → IsIn (pair_of m g) (reach_of scenario tables m g)
unfolding reach_of
start_in_reach scenario tables m g goes =
    start_in (follows scenario tables m) (follows_itself scenario tables m) (pairs_of scenario) (pair_of m g) (in-pairs scenario (pair_of m g) goes)
    (suc (length (pairs_of scenario)))

led_to : (scenario : Scenario) (tables : Tables) (m g : ℕ) → GoesTo scenario m g → (pair next : Pair)
    → IsIn pair (reach_of scenario tables m g) → IsPair scenario next → leads_to scenario tables m pair next ≡ true
    → IsIn next (reach_of scenario tables m g)
unfolding reach_of
led_to scenario tables m g goes pair next i h l =
    closed (follows scenario tables m) (follows_itself scenario tables m) (pairs_of scenario) (pair_of m g) (in-pairs scenario (pair_of m g) goes)
    pair next i (in-pairs scenario next h) (or_right (is_same pair next) (leads_to scenario tables m pair next) l)

pub reach_closed : ReachIsClosed
reach_closed scenario tables m g goes = (
  contains-in (pair_of m g) (reach_of scenario tables m g) (start_in_reach scenario tables m g goes),
  λ pair next i h l.
      contains-in next (reach_of scenario tables m g)
      (led_to scenario tables m g goes pair next (in_of_contains pair (reach_of scenario tables m g) i) h l),
)

pub reach_least : ReachIsLeast
unfolding reach_of
reach_least scenario tables m g pairs goes start step pair i =
    contains-in pair pairs
    (least (follows scenario tables m) (follows_itself scenario tables m) (pairs_of scenario) (pair_of m g) (in-pairs scenario (pair_of m g) goes)
    (λ p. IsIn p pairs) (in_of_contains (pair_of m g) pairs start)
    (λ x y j k f. elim (or_cases (is_same x y) (leads_to scenario tables m x y) f) [
      | inl e ↦ subst (λ p. IsIn p pairs) (same_pair x y e) j
      | inr l ↦ in_of_contains y pairs (step x y (contains-in x pairs j) (goes_of_pair scenario y k) l)
    ])
    (suc (length (pairs_of scenario))) pair (in_of_contains pair (reach_of scenario tables m g) i))

-- ---- a stamp is within its reach
module _ (raise : LastRaise) (scenario : Scenario) (schedule : Schedule) (tables : Tables) (well : IsScenario scenario) (enclosed : Encloses scenario schedule tables) (m g : ℕ) (goes : GoesTo scenario m g) where
  time_at : Pair → ℕ
  time_at pair = (local_stamp scenario schedule pair.message pair.group).time

  -- message n arrives at group k no later than message m at group g
  IsEarly : ℕ → ℕ → Type 0
  IsEarly n k = is_before (arrival_of scenario schedule m g) (arrival_of scenario schedule n k) ≡ false

  -- going back from the stamp, the one that is d less belongs to a pair of the reach
  record IsBack (d : ℕ) (pair : Pair) : Type 0 where
    pub there : IsIn pair (reach_of scenario tables m g)
    pub to : IsPair scenario pair
    pub time : time_at pair + d ≡ time_at (pair_of m g)
    pub early : IsEarly pair.message pair.group

  -- what arrives before an arrival that is early is so too
  earlier : (n k p h : ℕ) → IsEarly n k → is_before (arrival_of scenario schedule p h) (arrival_of scenario schedule n k) ≡ true → IsEarly p h
  unfolding IsEarly
  earlier n k p h early before =
      before_chain (arrival_of scenario schedule m g) (arrival_of scenario schedule n k) (arrival_of scenario schedule p h) early
      (before_one_way (arrival_of scenario schedule p h) (arrival_of scenario schedule n k) before)

  leads_by_arrival : (n k p : ℕ) → GoesTo scenario n k → GoesTo scenario p k
      → is_before (arrival_of scenario schedule p k) (arrival_of scenario schedule n k) ≡ true → leads_to scenario tables m (pair_of n k) (pair_of p k) ≡ true
  leads_by_arrival n k p to from before =
      let late : arrive scenario schedule p k ≤ arrive scenario schedule n k = tick_of_before (arrival_of scenario schedule p k) (arrival_of scenario schedule n k) before in
      let low : tables.least_arrival p k ≤ arrive scenario schedule p k = enclosed.arrival_low p k from in
      let high : arrive scenario schedule n k ≤ tables.greatest_arrival n k = enclosed.arrival_high n k to in
      and_from (not (p == n)) (may_precede tables (pair_of n k) (pair_of p k) || (not (p == m) && may_raise scenario tables (pair_of n k) (pair_of p k)))
      (not_from_false (p == n) (false_from_ne_true (p == n) (λ t. arrives_before_other scenario schedule p n k before (eqb-true p n t))))
      (or_left (may_precede tables (pair_of n k) (pair_of p k)) (not (p == m) && may_raise scenario tables (pair_of n k) (pair_of p k))
      (and_from (k == k) (nat_le (tables.least_arrival p k) (tables.greatest_arrival n k)) (eq-eqb k k refl)
      (le-leb (tables.least_arrival p k) (tables.greatest_arrival n k) (omega arith))))

  leads_by_commit : (n k p h : ℕ) → GoesTo scenario n k → GoesTo scenario p k → IsEarly n k
      → is_before (commit_of scenario schedule p k) (arrival_of scenario schedule n k) ≡ true → leads_to scenario tables m (pair_of n k) (pair_of p h) ≡ true
  unfolding IsEarly
  leads_by_commit n k p h to from early before =
      let first : ℕ = next_arrival scenario.time (tables.least_settling p k) in
      let sooner : first ≤ next_arrival scenario.time (settle scenario schedule p k) =
      next_rises scenario.time (tables.least_settling p k) (settle scenario schedule p k) (enclosed.settling_low p k from) in
      let after : next_arrival scenario.time (settle scenario schedule p k) ≤ arrive scenario schedule n k = tick_of_commit scenario schedule p n k before in
      let high : arrive scenario schedule n k ≤ tables.greatest_arrival n k = enclosed.arrival_high n k to in
      and_from (not (p == n)) (may_precede tables (pair_of n k) (pair_of p h) || (not (p == m) && may_raise scenario tables (pair_of n k) (pair_of p h)))
      (not_from_false (p == n) (false_from_ne_true (p == n) (λ t.
      committed_is_other scenario schedule p n k n k to (before_itself (arrival_of scenario schedule n k)) before (eqb-true p n t))))
      (or_right (may_precede tables (pair_of n k) (pair_of p h)) (not (p == m) && may_raise scenario tables (pair_of n k) (pair_of p h))
      (and_from (not (p == m)) (may_raise scenario tables (pair_of n k) (pair_of p h))
      (not_from_false (p == m) (false_from_ne_true (p == m) (λ t. committed_is_other scenario schedule p n k m g goes early before (eqb-true p m t))))
      (and_from (is_addressed (message_at scenario p) k) (nat_le first (tables.greatest_arrival n k)) from
      (le-leb first (tables.greatest_arrival n k) (omega arith)))))

  back : (d : ℕ) → d < time_at (pair_of m g) → (pair : Pair) × IsBack d pair
  unfolding time_at IsEarly
  back zero l = (
    pair_of m g,
    record { there = start_in_reach scenario tables m g goes; to = goes; time = omega arith; early = before_itself (arrival_of scenario schedule m g) },
  )
  back (suc d) l =
      let now = back d (omega arith) in
      let n : ℕ = now.0.message in
      let k : ℕ = now.0.group in
      let is : IsBack d now.0 = now.1 in
      let time : (local_stamp scenario schedule n k).time + d ≡ (local_stamp scenario schedule m g).time = is.time in
      let last = raise scenario schedule well n k is.to in
      let rose : IsLastRaise scenario schedule n k last.0 last.1 = last.2 in
      let low : last.0 < (local_stamp scenario schedule n k).time = rose.below in
      elim (cases_lt (last.0 + 1) (local_stamp scenario schedule n k).time) [
        | inl more ↦
            let u : ℕ = (local_stamp scenario schedule n k).time - 1 in
            let z = rose.counted u (omega arith) (omega arith) in
            let one : IsCounted scenario schedule n k last.1 u z.0 = z.1 in
            let stamp : (local_stamp scenario schedule z.0 k).time ≡ u = one.stamp in (
              pair_of z.0 k,
              record {
                there = led_to scenario tables m g goes now.0 (pair_of z.0 k) is.there one.goes (leads_by_arrival n k z.0 is.to one.goes one.first);
                to = one.goes;
                time = omega arith;
                early = earlier n k z.0 k is.early one.first;
              },
            )
        | inr few ↦ elim rose.by [
          | inl none ↦ absurd (omega (arith, none.0))
          | inr c ↦
              let one : IsRaise scenario schedule n k c.0 c.1 last.0 last.1 = c.2 in
              let stamp : (local_stamp scenario schedule c.0 c.1).time ≡ last.0 = one.stamp in
              let came = before_trans (arrival_of scenario schedule c.0 c.1) (commit_of scenario schedule c.0 k) (arrival_of scenario schedule n k)
              (arrives_first scenario schedule c.0 c.1 k one.from) one.first in (
                pair_of c.0 c.1,
                record {
                  there = led_to scenario tables m g goes now.0 (pair_of c.0 c.1) is.there one.from (leads_by_commit n k c.0 c.1 is.to one.goes is.early one.first);
                  to = one.from;
                  time = omega arith;
                  early = earlier n k c.0 c.1 is.early came;
                },
              )
        ]
      ]

  pub within_reach : (local_stamp scenario schedule m g).time ≤ length (reach_of scenario tables m g)
  unfolding time_at
  within_reach =
      at_least time_at (local_stamp scenario schedule m g).time 0 (reach_of scenario tables m g) (λ u l k.
      let r = back ((local_stamp scenario schedule m g).time - u) (omega arith) in
      let is = r.1.time in
      (r.0, r.1.there, omega arith))

-- ---- those that surely arrive before
pub past_sure_before : StampsRise → LastRaise → (scenario : Scenario) (schedule : Schedule) → IsScenario scenario → (tables : Tables) → Encloses scenario schedule tables
    → (n g : ℕ) → GoesTo scenario n g → 1 + length (sure_before scenario tables g n) ≤ (local_stamp scenario schedule n g).time
past_sure_before rise raise scenario schedule well tables enclosed n g goes =
    let test : ℕ → Bool = λ q. not (q == n) && nat_lt (tables.greatest_arrival q g) (tables.least_arrival n g) in
    let time : ℕ → ℕ = λ q. (local_stamp scenario schedule q g).time in
    let some = stamp_positive raise scenario schedule well n g goes in
    let few = at_most time ((local_stamp scenario schedule n g).time - 1) 0 (sure_before scenario tables g n)
    (once-filter test (addressed_to scenario g) (once-addressed scenario g))
    (λ a b i j e. one_time rise scenario schedule well g a b (goes_of_addressed scenario a g (in_of_filter test a (addressed_to scenario g) i).0)
    (goes_of_addressed scenario b g (in_of_filter test b (addressed_to scenario g) j).0) e)
    (λ q i.
    let r = in_of_filter test q (addressed_to scenario g) i in
    let to = goes_of_addressed scenario q g r.0 in
    let sure = ltb-true (tables.greatest_arrival q g) (tables.least_arrival n g)
    (and_parts (not (q == n)) (nat_lt (tables.greatest_arrival q g) (tables.least_arrival n g)) r.1).1 in
    let high = enclosed.arrival_high q g to in
    let low = enclosed.arrival_low n g goes in
    let up = rise scenario schedule well q n g to goes (before_by_tick (arrival_of scenario schedule q g) (arrival_of scenario schedule n g) (omega arith)) in
    (stamp_positive raise scenario schedule well q g to, omega arith)) in
    omega arith
