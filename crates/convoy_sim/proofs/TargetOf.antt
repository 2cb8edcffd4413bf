-- The target of a scenario, as the code has it at hand.
use Rattle.std.proofs.Common.{◌≡◌, ℕ, ◌-◌, ◌≤◌, sym, ap, ap₂, subst, subst₂, ◌∙◌, arith}
use Rattle.convoy_scenario.specs.Scenario.{Scenario}
use Rattle.convoy_scenario.specs.WellFormed.{IsScenario}
use Rattle.convoy_packets.specs.Assignment.{Schedule}
use Rattle.convoy_sim.specs.Scheduled.{Scheduled}
use Rattle.convoy_scenario.specs.Scenario.{GoesTo}
use Rattle.convoy_sim.specs.Times.{issue}
use Rattle.convoy_sim.specs.Delivery.{deliver, latency_at, latency_of}
use Rattle.convoy_sim.proofs.DeliveryTick.{never_negative}

-- a well-formed scenario with its schedule, and its target
pub record IsTarget (plan : Scenario) (schedule : Schedule) (times : Scheduled) (m g : ℕ) : Type 0 where
  pub same : times ≡ record { scenario = plan; schedule = schedule }
  pub well : IsScenario plan
  pub message : m ≡ plan.target_message
  pub group : g ≡ plan.target_group

module _ (plan : Scenario) (schedule : Schedule) (times : Scheduled) (m g : ℕ) (is : IsTarget plan schedule times m g) where
  pub target_well : IsScenario times.scenario
  target_well = subst (λ (s : Scheduled). IsScenario s.scenario) (sym is.same) is.well

  goes : GoesTo plan m g
  goes = subst₂ (GoesTo plan) (sym is.message) (sym is.group) is.well.addressed

  pub target_goes : GoesTo times.scenario m g
  target_goes = subst (λ (s : Scheduled). GoesTo s.scenario m g) (sym is.same) goes

  pub target_issued : (at tick : ℕ) → at ≡ issue times.scenario times.schedule m → tick ≡ deliver times.scenario times.schedule m g → at ≤ tick
  target_issued at tick e d =
      let never = never_negative plan schedule is.well m g goes in
      let delivered = ap (λ (s : Scheduled). deliver s.scenario s.schedule m g) is.same in
      let issued = ap (λ (s : Scheduled). issue s.scenario s.schedule m) is.same in
      omega arith

  pub target_latency : (at tick : ℕ) → at ≡ issue times.scenario times.schedule m → tick ≡ deliver times.scenario times.schedule m g
      → tick - at ≡ latency_of plan schedule
  unfolding latency_of latency_at
  target_latency at tick e d =
      ap₂ (λ t a. t - a) (d ∙ ap (λ (s : Scheduled). deliver s.scenario s.schedule m g) is.same) (e ∙ ap (λ (s : Scheduled). issue s.scenario s.schedule m) is.same)
      ∙ ap₂ (λ n h. deliver plan schedule n h - issue plan schedule n) is.message is.group
