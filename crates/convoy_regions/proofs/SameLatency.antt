-- Two schedules of the same delays that give the same stamps have the same latency.
use Rattle.std.proofs.Common.{◌≡◌, ℕ, ◌-◌, ◌<◌, List, ◌∷◌, length, map, sym, ap, ap₂, ◌∙◌}
use Rattle.convoy_scenario.specs.Scenario.{Scenario, GoesTo, message_at, message_numbers, is_addressed}
use Rattle.convoy_scenario.specs.WellFormed.{IsScenario}
use Rattle.convoy_packets.specs.Assignment.{Schedule, delay_of}
use Rattle.convoy_sim.specs.Times.{greatest, issue, arrive, settle}
use Rattle.convoy_sim.specs.Stamps.{is_less, local_stamp, final_stamp}
use Rattle.convoy_sim.specs.Delivery.{deliver, latency_at, latency_of}
use Rattle.convoy_sim.specs.ProtocolLaws.{DeliveryLaw, ahead_of}
use Rattle.convoy_regions.proofs.Lists.{filters_agree}

-- the schedule with other delays
abbrev with_delays : Schedule → List ℕ → Schedule
with_delays schedule delays = record { delays = delays; order = schedule.order }

module _ (plan : Scenario) (s r : Schedule) (same : s.delays ≡ r.delays) where
  pub same_issue : (m : ℕ) → issue plan s m ≡ issue plan r m
  unfolding delay_of
  same_issue m = ap (λ delays. issue plan (with_delays s delays) m) same

  pub same_arrive : (m g : ℕ) → arrive plan s m g ≡ arrive plan r m g
  unfolding arrive delay_of
  same_arrive m g = ap (λ delays. arrive plan (with_delays s delays) m g) same

  pub same_settle : (m g : ℕ) → settle plan s m g ≡ settle plan r m g
  unfolding settle arrive delay_of
  same_settle m g = ap (λ delays. settle plan (with_delays s delays) m g) same

  -- the same stamps, and so the same latency
  pub same_latency : DeliveryLaw → IsScenario plan → ((q h : ℕ) → GoesTo plan q h → local_stamp plan s q h ≡ local_stamp plan r q h) → ((m : ℕ) → m < length plan.multicasts → final_stamp plan s m ≡ final_stamp plan r m) → latency_of plan s ≡ latency_of plan r
  unfolding latency_of latency_at
  same_latency law well local final =
      let m : ℕ = plan.target_message in
      let g : ℕ = plan.target_group in
      let ahead : ahead_of plan s m g ≡ ahead_of plan r m g =
      filters_agree (λ n. is_addressed (message_at plan n) g) (λ n. is_less (local_stamp plan s n g) (final_stamp plan s m)) (λ n. is_less (local_stamp plan r n g) (final_stamp plan r m))
      (λ n goes. ap₂ is_less (local n g goes) (final m well.target)) (message_numbers plan) in
      let commits : (λ n. settle plan s n g) ≡ (λ n. settle plan r n g) = λ i n. same_settle n g i in
      let delivered : deliver plan s m g ≡ deliver plan r m g =
      law plan s well m g well.addressed
      ∙ ap₂ (λ (f : ℕ → ℕ) (ns : List ℕ). greatest (map f (m ∷ ns))) commits ahead
      ∙ sym (law plan r well m g well.addressed) in
      ap₂ (λ (d i : ℕ). d - i) delivered (same_issue m)
