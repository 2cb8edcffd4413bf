-- What holds a message back, and which proposal comes last.
use Rattle.std.proofs.Common.{◌≡◌, ◌≢◌, ℕ, ◌≤◌, ◌==◌, false, ◌&&◌, List, [], ◌∷◌, Option, Some, None, find, unwrap_or, inl, inr, refl, sym, ap, ◌∙◌, arith}
use Rattle.std.proofs.lemmas.Bool.{cases_Bool, and_from, and_parts, both_ways, eq-eqb, eqb-true, cond-true, cond-false}
use Rattle.std.proofs.lemmas.Option.{none-some}
use Rattle.convoy_scenario.specs.Scenario.{Scenario, GoesTo, message_at, message_numbers, is_addressed}
use Rattle.convoy_scenario.specs.WellFormed.{IsScenario}
use Rattle.convoy_packets.specs.Assignment.{Schedule}
use Rattle.convoy_sim.specs.Times.{settle, propose_arrive}
use Rattle.convoy_sim.specs.Stamps.{is_less, local_stamp, final_stamp}
use Rattle.convoy_sim.specs.Delivery.{addressed_to, deliver}
use Rattle.convoy_sim.specs.ProtocolLaws.{ahead_of, DeliveredAfterCommit, DeliveryLaw}
use Rattle.convoy_sim.proofs.Membership.{IsIn, in_of_filter, in_of_find, find-in, greatest_is_one}
use Rattle.convoy_sim.proofs.Addressed.{in_of_goes, goes_from_in, in-numbers, goes_of_addressed}
use Rattle.convoy_timeline.specs.Causes.{holder_of, is_last_ahead, last_proposer}
use Rattle.convoy_timeline.specs.ExplanationLaws.{HoldsLast, IsRightHolder, HoldersHold, LastProposalsCommit}

-- ---- the last proposal
found_proposer : (plan : Scenario) (schedule : Schedule) (n g : ℕ) (found : Option ℕ)
    → find (λ h. propose_arrive plan schedule n g h == settle plan schedule n g) (message_at plan n).destinations ≡ found
    → ((h : ℕ) × IsIn h (message_at plan n).destinations × (propose_arrive plan schedule n g h ≡ settle plan schedule n g))
    → GoesTo plan n (unwrap_or found g) × (propose_arrive plan schedule n g (unwrap_or found g) ≡ settle plan schedule n g)
found_proposer plan schedule n g (Some h) is one =
    let r = in_of_find (λ k. propose_arrive plan schedule n g k == settle plan schedule n g) h (message_at plan n).destinations is in
    (goes_from_in plan n h r.0, eqb-true _ _ r.1)
found_proposer plan schedule n g None is one =
    let r = find-in (λ k. propose_arrive plan schedule n g k == settle plan schedule n g) one.0 (message_at plan n).destinations one.1 (eq-eqb _ _ one.2) in
    absurd (none-some _ (sym is ∙ r.1))

greatest_member : (f : ℕ → ℕ) (x : ℕ) (xs : List ℕ) → IsIn x xs → (y : ℕ) × IsIn y xs × (f y ≡ Rattle.convoy_sim.specs.Times.greatest (Rattle.std.specs.Prelude.map f xs))
greatest_member f x [] i = absurd i
greatest_member f x (y ∷ ys) i = greatest_is_one f y ys

pub last_proposals_commit : LastProposalsCommit
unfolding last_proposer settle
last_proposals_commit plan schedule well n g goes =
    found_proposer plan schedule n g _ refl
    (greatest_member (propose_arrive plan schedule n g) g (message_at plan n).destinations (in_of_goes plan n g goes))

-- ---- the holder
holder_found : (plan : Scenario) (schedule : Schedule) → DeliveredAfterCommit → IsScenario plan → (m g n : ℕ) → GoesTo plan m g
    → (settle plan schedule m g == deliver plan schedule m g) ≡ false
    → find (is_last_ahead plan schedule m g) (message_numbers plan) ≡ Some n → HoldsLast plan schedule m g n
holder_found plan schedule after well m g n goes early is =
    let r = in_of_find (is_last_ahead plan schedule m g) n (message_numbers plan) is in
    let outer = and_parts (is_addressed (message_at plan n) g && is_less (local_stamp plan schedule n g) (final_stamp plan schedule m)) (settle plan schedule n g == deliver plan schedule m g) r.1 in
    let inner = and_parts (is_addressed (message_at plan n) g) (is_less (local_stamp plan schedule n g) (final_stamp plan schedule m)) outer.0 in
    let last : settle plan schedule n g ≡ deliver plan schedule m g = eqb-true _ _ outer.1 in
    let order : settle plan schedule m g ≤ deliver plan schedule m g = after plan schedule well m g goes in
    let differ : settle plan schedule m g ≢ deliver plan schedule m g = λ same. both_ways _ early (eq-eqb _ _ same) in
    record { goes = inner.0; ahead = inner.1; later = omega arith; last = last }

none_ahead : (plan : Scenario) (schedule : Schedule) → DeliveryLaw → IsScenario plan → (m g : ℕ) → GoesTo plan m g
    → (settle plan schedule m g == deliver plan schedule m g) ≡ false
    → find (is_last_ahead plan schedule m g) (message_numbers plan) ≡ None → ⊥
none_ahead plan schedule law well m g goes early none =
    let one = greatest_is_one (λ k. settle plan schedule k g) m (ahead_of plan schedule m g) in
    let last : settle plan schedule one.0 g ≡ deliver plan schedule m g = one.2 ∙ sym (law plan schedule well m g goes) in
    elim one.1 [
      | inl same ↦ both_ways _ early (eq-eqb _ _ (ap (λ k. settle plan schedule k g) same ∙ last))
      | inr ahead ↦
          let r = in_of_filter (λ k. is_less (local_stamp plan schedule k g) (final_stamp plan schedule m)) one.0 (addressed_to plan g) ahead in
          let there = goes_of_addressed plan one.0 g r.0 in
          let passes = and_from _ _ (and_from _ _ there r.1) (eq-eqb _ _ last) in
          let found = find-in (is_last_ahead plan schedule m g) one.0 (message_numbers plan) (in-numbers plan one.0 g there) passes in
          none-some _ (sym none ∙ found.1)
    ]

right_holder : (plan : Scenario) (schedule : Schedule) → DeliveryLaw → DeliveredAfterCommit → IsScenario plan → (m g : ℕ) → GoesTo plan m g
    → (settle plan schedule m g == deliver plan schedule m g) ≡ false
    → (found : Option ℕ) → find (is_last_ahead plan schedule m g) (message_numbers plan) ≡ found → IsRightHolder plan schedule m g found
right_holder plan schedule law after well m g goes early (Some n) is = holder_found plan schedule after well m g n goes early is
right_holder plan schedule law after well m g goes early None is = absurd (none_ahead plan schedule law well m g goes early is)

pub holders_hold : DeliveryLaw → DeliveredAfterCommit → HoldersHold
unfolding holder_of
holders_hold law after plan schedule well m g goes =
    elim (cases_Bool (settle plan schedule m g == deliver plan schedule m g)) [
      | inl same ↦ rw (cond-true _ _ _ same) (eqb-true _ _ same)
      | inr early ↦ rw (cond-false _ _ _ early) (right_holder plan schedule law after well m g goes early _ refl)
    ]
