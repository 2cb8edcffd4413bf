-- The tick of delivery: the first at which all that are ahead are committed.
use Rattle.std.proofs.Common.{◌≡◌, ◌≢◌, ℕ, ◌+◌, ◌-◌, ◌<◌, ◌≤◌, zero, suc, Bool, true, ◌&&◌, nat_lt, nat_le, inl, inr, ◌∷◌, refl, ap, subst, ◌∙◌, arith}
use Rattle.std.proofs.lemmas.Bool.{cases_Bool, cases_lt, both_ways, cond-true, cond-false, and_from, and_parts, le-leb, leb-true, lt-ltb, ltb-true, not_from_false, not-true, false_from_ne_true}
use Rattle.convoy_scenario.specs.Scenario.{Scenario}
use Rattle.convoy_packets.specs.Assignment.{Schedule}
use Rattle.convoy_sim.specs.Times.{arrive, settle}
use Rattle.convoy_sim.specs.Stamps.{is_less, local_stamp, final_stamp}
use Rattle.convoy_sim.specs.Delivery.{last_commit, addressed_to, holds_back, is_free, first_tick, deliver}
use Rattle.convoy_sim.specs.Traffic.{IsTraffic, TrafficDeliveryBound}
use Rattle.convoy_sim.specs.ProtocolLaws.{ahead_of, arrive_by, DeliveryIsLeast, DeliveryLaw, DeliveryBound, DeliveredByLastCommit, ArrivesAfterIssue, DeliveredAfterCommit, LatencyIsNeverNegative}
use Rattle.convoy_scenario.specs.Scenario.{GoesTo}
use Rattle.convoy_sim.proofs.Membership.{IsIn, in-filter, list_any_in, in_of_list_any, in_greatest, greatest_most, greatest_of_fewer}
use Rattle.convoy_sim.proofs.Addressed.{in-addressed, goes_of_addressed, in_of_ahead}
use Rattle.convoy_sim.proofs.ScenarioMoments.{arrive_settle, traffic_of}
use Rattle.convoy_sim.proofs.StampLaws.{ahead_arrives}

-- the first tick is the one that is not too far, passes the test, and before which none does
pub first_tick_is : (test : ℕ → Bool) (more start tick : ℕ) → start ≤ tick → tick ≤ start + more
    → ((t : ℕ) → start ≤ t → test t ≡ true → tick ≤ t) → test tick ≡ true → first_tick test more start ≡ tick
first_tick_is test zero start tick l h least passes = omega arith
first_tick_is test (suc more) start tick l h least passes = elim (cases_Bool (test start)) [
  | inl e ↦
      let here = least start (omega arith) e in
      cond-true (test start) start (first_tick test more (start + 1)) e ∙ omega arith
  | inr e ↦
      let differs : start ≢ tick = λ s. both_ways (test start) e (ap test s ∙ passes) in
      cond-false (test start) start (first_tick test more (start + 1)) e
      ∙ first_tick_is test more (start + 1) tick (omega arith) (omega arith) (λ t k. least t (omega arith)) passes
]

-- ---- what holds a message back
pub in-ahead : (plan : Scenario) (schedule : Schedule) (n m g : ℕ) → GoesTo plan n g
    → is_less (local_stamp plan schedule n g) (final_stamp plan schedule m) ≡ true → IsIn n (ahead_of plan schedule m g)
in-ahead plan schedule n m g h l =
    in-filter (λ k. is_less (local_stamp plan schedule k g) (final_stamp plan schedule m)) n (addressed_to plan g) (in-addressed plan n g h) l

holds_parts : (plan : Scenario) (schedule : Schedule) (m g tick n : ℕ) → holds_back plan schedule m g tick n ≡ true
    → (arrive plan schedule n g ≤ tick) × (is_less (local_stamp plan schedule n g) (final_stamp plan schedule m) ≡ true) × (tick < settle plan schedule n g)
unfolding holds_back
holds_parts plan schedule m g tick n h =
    let come = nat_le (arrive plan schedule n g) tick in
    let less = is_less (local_stamp plan schedule n g) (final_stamp plan schedule m) in
    let waits = nat_lt tick (settle plan schedule n g) in
    let outer = and_parts (come && less) waits h in
    let inner = and_parts come less outer.0 in
    (leb-true _ _ inner.0, inner.1, ltb-true _ _ outer.1)

holds_from : (plan : Scenario) (schedule : Schedule) (m g tick n : ℕ) → arrive plan schedule n g ≤ tick
    → is_less (local_stamp plan schedule n g) (final_stamp plan schedule m) ≡ true → tick < settle plan schedule n g
    → holds_back plan schedule m g tick n ≡ true
unfolding holds_back
holds_from plan schedule m g tick n h l w =
    let come = nat_le (arrive plan schedule n g) tick in
    let less = is_less (local_stamp plan schedule n g) (final_stamp plan schedule m) in
    let waits = nat_lt tick (settle plan schedule n g) in
    and_from (come && less) waits (and_from come less (le-leb _ _ h) l) (lt-ltb _ _ w)

free_when_last : (plan : Scenario) (schedule : Schedule) (m g tick : ℕ) → last_commit plan schedule g (m ∷ ahead_of plan schedule m g) ≤ tick
    → is_free plan schedule m g tick ≡ true
free_when_last plan schedule m g tick l = not_from_false _ (false_from_ne_true _ (λ any.
    let r = in_of_list_any (holds_back plan schedule m g tick) (addressed_to plan g) any in
    let n : ℕ = r.0 in
    let parts = holds_parts plan schedule m g tick n r.2 in
    let closed = in_greatest (λ k. settle plan schedule k g) n (m ∷ ahead_of plan schedule m g)
    (inr (in-ahead plan schedule n m g (goes_of_addressed plan n g r.1) parts.1)) in
    omega arith))

last_when_free : (plan : Scenario) (schedule : Schedule) → IsTraffic plan → (m g tick : ℕ) → GoesTo plan m g
    → settle plan schedule m g ≤ tick → is_free plan schedule m g tick ≡ true
    → last_commit plan schedule g (m ∷ ahead_of plan schedule m g) ≤ tick
last_when_free plan schedule traffic m g tick hm l free =
    greatest_most (λ k. settle plan schedule k g) tick (m ∷ ahead_of plan schedule m g) each where
      each : (n : ℕ) → IsIn n (m ∷ ahead_of plan schedule m g) → settle plan schedule n g ≤ tick
      each n (inl e) = subst (λ k. settle plan schedule k g ≤ tick) e l
      each n (inr i) = elim (cases_lt tick (settle plan schedule n g)) [
        | inl not_yet ↦ absurd (
            let r = in_of_ahead plan schedule n m g i in
            let come = ahead_arrives plan schedule traffic n m g r.0 hm r.1 in
            let holds : holds_back plan schedule m g tick n ≡ true =
            holds_from plan schedule m g tick n (omega arith) r.1 not_yet in
            both_ways _ (not-true _ free) (list_any_in (holds_back plan schedule m g tick) n (addressed_to plan g) (in-addressed plan n g r.0) holds))
        | inr closed ↦ closed
      ]

-- ---- the laws
-- in any traffic a message is delivered as it and all that are ahead of it are committed
delivered_at_last : (plan : Scenario) (schedule : Schedule) → IsTraffic plan → (m g : ℕ) → GoesTo plan m g
    → deliver plan schedule m g ≡ last_commit plan schedule g (m ∷ ahead_of plan schedule m g)
unfolding deliver
delivered_at_last plan schedule traffic m g hm =
    let last : ℕ = last_commit plan schedule g (m ∷ ahead_of plan schedule m g) in
    let settled : ℕ = settle plan schedule m g in
    let low : settled ≤ last = in_greatest (λ k. settle plan schedule k g) m (m ∷ ahead_of plan schedule m g) (inl refl) in
    let high : last ≤ last_commit plan schedule g (addressed_to plan g) = greatest_of_fewer (λ k. settle plan schedule k g) (m ∷ ahead_of plan schedule m g) (addressed_to plan g)
    (λ n i. elim i [
      | inl e ↦ subst (λ k. IsIn k (addressed_to plan g)) e (in-addressed plan m g hm)
      | inr j ↦ in-addressed plan n g (in_of_ahead plan schedule n m g j).0
    ]) in
    first_tick_is (is_free plan schedule m g) (last_commit plan schedule g (addressed_to plan g) - settled) settled last low (omega arith)
    (λ t l free. last_when_free plan schedule traffic m g t hm l free)
    (free_when_last plan schedule m g last (omega arith))

pub delivery_law : DeliveryLaw
delivery_law plan schedule well = delivered_at_last plan schedule (traffic_of plan well)

-- what the look-out finds is the least free tick, by the law
pub delivery_is_least : DeliveryIsLeast
delivery_is_least plan schedule well m g hm =
    let law = delivery_law plan schedule well m g hm in
    let own = in_greatest (λ k. settle plan schedule k g) m (m ∷ ahead_of plan schedule m g) (inl refl) in
    record {
      committed = omega arith;
      free = free_when_last plan schedule m g (deliver plan schedule m g) (omega arith);
      least = λ sooner l free. let r = last_when_free plan schedule (traffic_of plan well) m g sooner hm l free in omega arith;
    }

pub traffic_bound : TrafficDeliveryBound
traffic_bound plan schedule traffic m g hm =
    rw (delivered_at_last plan schedule traffic m g hm)
    (greatest_of_fewer (λ k. settle plan schedule k g) (m ∷ ahead_of plan schedule m g) (m ∷ arrive_by plan schedule m g)
    (λ n i. elim i [
      | inl e ↦ inl e
      | inr j ↦
          let r = in_of_ahead plan schedule n m g j in
          inr (in-filter (λ k. nat_le (arrive plan schedule k g) (settle plan schedule m g)) n (addressed_to plan g)
          (in-addressed plan n g r.0) (le-leb _ _ (ahead_arrives plan schedule traffic n m g r.0 hm r.1)))
    ]))

pub delivery_bound : DeliveryBound
delivery_bound plan schedule well = traffic_bound plan schedule (traffic_of plan well)

pub delivered_by_last : DeliveredByLastCommit
delivered_by_last plan schedule well m g hm =
    rw (delivery_law plan schedule well m g hm)
    (greatest_of_fewer (λ k. settle plan schedule k g) (m ∷ ahead_of plan schedule m g) (addressed_to plan g)
    (λ n i. elim i [
      | inl e ↦ subst (λ k. IsIn k (addressed_to plan g)) e (in-addressed plan m g hm)
      | inr j ↦ in-addressed plan n g (in_of_ahead plan schedule n m g j).0
    ]))

pub arrives_after_issue : ArrivesAfterIssue
unfolding arrive
arrives_after_issue plan schedule m g = omega arith

pub delivered_after_commit : DeliveredAfterCommit
delivered_after_commit plan schedule well m g hm =
    rw (delivery_law plan schedule well m g hm)
    (in_greatest (λ k. settle plan schedule k g) m (m ∷ ahead_of plan schedule m g) (inl refl))

pub never_negative : LatencyIsNeverNegative
never_negative plan schedule well m g hm =
    let come = arrives_after_issue plan schedule m g in
    let commit = arrive_settle plan schedule m g g hm in
    let last = delivered_after_commit plan schedule well m g hm in
    omega arith
