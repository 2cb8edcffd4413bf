-- What a run tells is what the definitions say, so the laws of the definitions are laws of what it tells.
use Rattle.std.proofs.Common.{◌≡◌, ℕ, ◌+◌, ◌*◌, ◌<◌, ◌≤◌, true, inl, inr, ◌∷◌, length, Some, is_some, sym, ap, subst, subst₂, ◌∙◌, arith}
use Rattle.std.proofs.lemmas.Bool.{cases_Bool, cases_eq}
use Rattle.std.proofs.lemmas.Option.{none-some, same_Some, slice_get_within}
use Rattle.convoy_scenario.specs.Scenario.{Scenario, GoesTo, message_at, is_addressed}
use Rattle.convoy_scenario.specs.WellFormed.{IsScenario}
use Rattle.convoy_packets.specs.Assignment.{Schedule, IsAssignment}
use Rattle.convoy_sim.specs.declared.run.Proposal.{Proposal}
use Rattle.convoy_sim.specs.declared.timestamp.Timestamp.{Timestamp}
use Rattle.convoy_sim.specs.Times.{Tick, issue, arrive, settle}
use Rattle.convoy_sim.specs.Stamps.{is_less, local_stamp, final_stamp}
use Rattle.convoy_sim.specs.Delivery.{last_commit, deliver, latency_at, latency_of}
use Rattle.convoy_sim.specs.ProtocolLaws.{ahead_of}
use Rattle.convoy_sim.specs.Run.{Run, IsRunOf, proposed_of, committed_of, delivered_of, final_stamp_of}
use Rattle.convoy_sim.specs.RunLaws.{IsStampedBefore, IsAhead, IsAwaited, IsLastAwaited, IsAloneAt, RunsKeepTheLaws}
use Rattle.convoy_sim.proofs.Membership.{IsIn, in_greatest, greatest_is_one}
use Rattle.convoy_sim.proofs.Addressed.{number_of_goes, in_of_ahead}
use Rattle.convoy_sim.proofs.StampLaws.{finals_differ}
use Rattle.convoy_sim.proofs.DeliveryTick.{in-ahead, delivery_law, never_negative}
use Rattle.convoy_sim.proofs.LatencyBounds.{order_law, within_four, lone_within_two}

module _ (plan : Scenario) (schedule : Schedule) (run : Run) (well : IsScenario plan) (is : IsRunOf plan schedule run) where
  -- ---- what is told is told of a destination, and is what the definitions say
  proposed_is : (n g : ℕ) (proposal : Proposal) → proposed_of run n g ≡ Some proposal
      → GoesTo plan n g × (local_stamp plan schedule n g ≡ proposal.stamp)
  proposed_is n g proposal at = elim (cases_Bool (is_addressed (message_at plan n) g)) [
    | inl goes ↦ (goes, ap (λ (p : Proposal). p.stamp) (same_Some _ _ (sym (is.proposed n g goes) ∙ at)))
    | inr not ↦ absurd (none-some proposal (sym (is.elsewhere n g not).proposed ∙ at))
  ]

  committed_is : (n g : ℕ) (tick : Tick) → committed_of run n g ≡ Some tick → GoesTo plan n g × (settle plan schedule n g ≡ tick)
  committed_is n g tick at = elim (cases_Bool (is_addressed (message_at plan n) g)) [
    | inl goes ↦ (goes, same_Some _ _ (sym (is.committed n g goes) ∙ at))
    | inr not ↦ absurd (none-some tick (sym (is.elsewhere n g not).committed ∙ at))
  ]

  delivered_is : (m g : ℕ) (tick : Tick) → delivered_of run m g ≡ Some tick → GoesTo plan m g × (deliver plan schedule m g ≡ tick)
  delivered_is m g tick at = elim (cases_Bool (is_addressed (message_at plan m) g)) [
    | inl goes ↦ (goes, same_Some _ _ (sym (is.delivered m g goes) ∙ at))
    | inr not ↦ absurd (none-some tick (sym (is.elsewhere m g not).delivered ∙ at))
  ]

  final_is : (m : ℕ) (stamp : Timestamp) → final_stamp_of run m ≡ Some stamp
      → (m < length plan.multicasts) × (final_stamp plan schedule m ≡ stamp)
  final_is m stamp at =
      let count = is.message_count in
      let within = slice_get_within run.finals m stamp at in
      let known : m < length plan.multicasts = omega arith in
      (known, same_Some _ _ (sym (is.final_stamps m known) ∙ at))

  -- ---- ahead, as told and as defined
  ahead_is : (n m g : ℕ) → IsAhead run n m g
      → GoesTo plan n g × (is_less (local_stamp plan schedule n g) (final_stamp plan schedule m) ≡ true)
  ahead_is n m g ahead =
      let p = proposed_is n g ahead.0 ahead.2 in
      let f = final_is m ahead.1 ahead.3 in
      (p.0, subst₂ (λ s t. is_less s t ≡ true) (sym p.1) (sym f.1) ahead.4)

  is_ahead : (n m g : ℕ) → GoesTo plan n g → GoesTo plan m g
      → is_less (local_stamp plan schedule n g) (final_stamp plan schedule m) ≡ true → IsAhead run n m g
  is_ahead n m g goes own less = (
    record { tick = arrive plan schedule n g; stamp = local_stamp plan schedule n g },
    final_stamp plan schedule m,
    is.proposed n g goes,
    is.final_stamps m (number_of_goes plan m g own),
    less,
  )

  awaited_in : (n m g : ℕ) → IsAwaited run n m g → IsIn n (m ∷ ahead_of plan schedule m g)
  awaited_in n m g (inl e) = inl (sym e)
  awaited_in n m g (inr ahead) = let a = ahead_is n m g ahead in inr (in-ahead plan schedule n m g a.0 a.1)

  in_awaited : (n m g : ℕ) → GoesTo plan m g → IsIn n (m ∷ ahead_of plan schedule m g) → GoesTo plan n g × IsAwaited run n m g
  in_awaited n m g own (inl e) = (subst (λ k. GoesTo plan k g) e own, inl (sym e))
  in_awaited n m g own (inr i) =
      let a = in_of_ahead plan schedule n m g i in
      (a.0, inr (is_ahead n m g a.0 own a.1))

  -- ---- the laws
  everywhere : (m g : ℕ) → is_some (delivered_of run m g) ≡ is_addressed (message_at plan m) g
  everywhere m g = elim (cases_Bool (is_addressed (message_at plan m) g)) [
    | inl goes ↦ ap is_some (is.delivered m g goes) ∙ sym goes
    | inr not ↦ ap is_some (is.elsewhere m g not).delivered ∙ sym not
  ]

  last_awaited : (m g : ℕ) (tick : Tick) → delivered_of run m g ≡ Some tick → IsLastAwaited run m g tick
  last_awaited m g tick at =
      let d = delivered_is m g tick at in
      let law : last_commit plan schedule g (m ∷ ahead_of plan schedule m g) ≡ tick = sym (delivery_law plan schedule well m g d.0) ∙ d.1 in
      let one = greatest_is_one (λ k. settle plan schedule k g) m (ahead_of plan schedule m g) in
      let there = in_awaited one.0 m g d.0 one.1 in
      record {
        none_later = λ n commit awaited told.
            let c = committed_is n g commit told in
            let low = in_greatest (λ k. settle plan schedule k g) n (m ∷ ahead_of plan schedule m g) (awaited_in n m g awaited) in
            omega (arith, law, c.1, low);
        one_then = (one.0, there.1, is.committed one.0 g there.0 ∙ ap Some (one.2 ∙ law));
      }

  stamps : (m n : ℕ) (stamp : Timestamp) → final_stamp_of run m ≡ Some stamp → final_stamp_of run n ≡ Some stamp → m ≡ n
  stamps m n stamp a b =
      let p = final_is m stamp a in
      let q = final_is n stamp b in
      elim (cases_eq m n) [
        | inl e ↦ e
        | inr differ ↦ absurd (finals_differ plan schedule well m n p.0 q.0 differ (p.1 ∙ sym q.1))
      ]

  order : (m n g : ℕ) (mine other : Tick) → IsStampedBefore run m n → delivered_of run m g ≡ Some mine → delivered_of run n g ≡ Some other
      → mine ≤ other
  order m n g mine other before a b =
      let p = delivered_is m g mine a in
      let q = delivered_is n g other b in
      let less = subst₂ (λ s t. is_less s t ≡ true) (sym (final_is m before.0 before.2).1) (sym (final_is n before.1 before.3).1) before.4 in
      subst₂ (λ s t. s ≤ t) p.1 q.1 (order_law plan schedule well m n less g p.0 q.0)

  module _ (assigned : IsAssignment plan schedule) where
    four : (m g : ℕ) (tick : Tick) → delivered_of run m g ≡ Some tick → tick ≤ issue plan schedule m + 4 * plan.delay
    unfolding latency_at
    four m g tick at =
        let d = delivered_is m g tick at in
        omega (arith, d.1, within_four plan schedule well assigned m g d.0)

    two : (m g : ℕ) (tick : Tick) → IsAloneAt run m g → delivered_of run m g ≡ Some tick → tick ≤ issue plan schedule m + 2 * plan.delay
    unfolding latency_at
    two m g tick alone at =
        let d = delivered_is m g tick at in
        omega (arith, d.1, lone_within_two plan schedule well assigned m g d.0 (λ n goes. alone n _ (is.delivered n g goes)))

  latency : delivered_of run plan.target_message plan.target_group ≡ Some (issue plan schedule plan.target_message + run.latency)
  unfolding latency_of latency_at
  latency =
      let late = never_negative plan schedule well plan.target_message plan.target_group well.addressed in
      is.delivered plan.target_message plan.target_group well.addressed ∙ ap Some (omega (arith, late, is.latency))

pub runs_keep_the_laws : RunsKeepTheLaws
runs_keep_the_laws plan schedule run well assigned is = record {
  everywhere = everywhere plan schedule run well is;
  delivery = last_awaited plan schedule run well is;
  stamps = stamps plan schedule run well is;
  order = order plan schedule run well is;
  four_delays = four plan schedule run well is assigned;
  two_delays = two plan schedule run well is assigned;
  latency = latency plan schedule run well is;
}
