-- Runs in which the same is in the same order at each group give stamps of the same times: each time is the least that is past those before it.
use Rattle.std.proofs.Common.{◌≡◌, ℕ, ◌+◌, ◌-◌, ◌<◌, ◌≤◌, zero, suc, inl, inr, sym, ap, ◌∙◌, arith}
use Rattle.std.proofs.lemmas.Bool.{cases_lt}
use Rattle.convoy_scenario.specs.Scenario.{Scenario, GoesTo}
use Rattle.convoy_scenario.specs.WellFormed.{IsScenario}
use Rattle.convoy_packets.specs.Assignment.{Schedule}
use Rattle.convoy_sim.specs.Moments.{is_before, arrival_of, commit_of}
use Rattle.convoy_sim.specs.Stamps.{local_stamp, final_stamp}
use Rattle.convoy_sim.specs.RaiseLaws.{IsCounted, IsLastRaise, IsRaise}
use Rattle.convoy_sim.proofs.MomentsOrder.{time_of_not_less}
use Rattle.convoy_orders.specs.Renumbered.{IsRenumbered}
use Rattle.convoy_orders.proofs.Used.{Stamps}
use Rattle.convoy_orders.proofs.SameParts.{goes_there, goes_here, goes_back, turned}
use Rattle.convoy_orders.proofs.SameTimes.{AreInStep}

abbrev time_of : Scenario → Schedule → ℕ → ℕ → ℕ
time_of plan schedule m g = (local_stamp plan schedule m g).time

module _ (used : Stamps) (renumber back : ℕ → ℕ) (plan other : Scenario) (is : IsRenumbered renumber back plan other)
    (well : IsScenario plan) (well_too : IsScenario other) (schedule run : Schedule) (step : AreInStep renumber plan schedule other run) where
  positive : (m g : ℕ) → GoesTo plan m g → 0 < time_of plan schedule m g
  positive m g goes =
      let r = used.last plan schedule well m g goes in
      let raise : IsLastRaise plan schedule m g r.0 r.1 = r.2 in
      let below : r.0 < time_of plan schedule m g = raise.below in
      omega arith

  no_later : (k m g : ℕ) → GoesTo plan m g → time_of plan schedule m g ≤ k → time_of other run m (renumber g) ≤ time_of plan schedule m g
  no_later zero m g goes l = absurd (let some = positive m g goes in omega arith)
  no_later (suc k) m g goes l =
      let r = used.last other run well_too m (renumber g) (goes_there renumber back plan other is m g goes) in
      let raise : IsLastRaise other run m (renumber g) r.0 r.1 = r.2 in
      let below : r.0 < time_of other run m (renumber g) = raise.below in
      elim (cases_lt (r.0 + 1) (time_of other run m (renumber g))) [
        | inl more ↦
            let u : ℕ = time_of other run m (renumber g) - 1 in
            let z = raise.counted u (omega arith) (omega arith) in
            let counted : IsCounted other run m (renumber g) r.1 u z.0 = z.1 in
            let stamp : time_of other run z.0 (renumber g) ≡ u = counted.stamp in
            let here = goes_here renumber back plan other is z.0 g counted.goes in
            let rises = used.rise plan schedule well z.0 m g here goes (sym (step.arrivals z.0 m g here goes) ∙ counted.first) in
            let low = no_later k z.0 g here (omega arith) in
            omega arith
        | inr last ↦ elim raise.by [
          | inl none ↦ let some = positive m g goes in let first = none.0 in omega arith
          | inr c ↦
              let by : IsRaise other run m (renumber g) c.0 c.1 r.0 r.1 = c.2 in
              let stamp : time_of other run c.0 c.1 ≡ r.0 = by.stamp in
              let here = goes_here renumber back plan other is c.0 g by.goes in
              let from = goes_back renumber back plan other is c.0 c.1 by.from in
              let rises = used.past_commit plan schedule well c.0 m g here goes (sym (step.commits c.0 m g here goes) ∙ by.first) in
              let local = time_of_not_less (final_stamp plan schedule c.0) (local_stamp plan schedule c.0 (back c.1)) (used.greatest plan schedule well c.0 (back c.1) from) in
              let low = no_later k c.0 (back c.1) from (omega arith) in
              let again : time_of other run c.0 (renumber (back c.1)) ≡ time_of other run c.0 c.1 = ap (time_of other run c.0) (is.there_again c.1) in
              omega arith
        ]
      ]

  pub stamps_low : (m g : ℕ) → GoesTo plan m g → time_of other run m (renumber g) ≤ time_of plan schedule m g
  stamps_low m g goes = no_later (time_of plan schedule m g) m g goes (omega arith)

  -- the same the other way round
  pub step_back : AreInStep back other run plan schedule
  step_back = record {
    arrivals = λ n z g goes too.
        sym (step.arrivals n z (back g) (goes_back renumber back plan other is n g goes) (goes_back renumber back plan other is z g too))
        ∙ ap (λ h. is_before (arrival_of other run n h) (arrival_of other run z h)) (is.there_again g);
    commits = λ q z g goes too.
        sym (step.commits q z (back g) (goes_back renumber back plan other is q g goes) (goes_back renumber back plan other is z g too))
        ∙ ap (λ h. is_before (commit_of other run q h) (arrival_of other run z h)) (is.there_again g);
  }

module _ (used : Stamps) (renumber back : ℕ → ℕ) (plan other : Scenario) (is : IsRenumbered renumber back plan other)
    (well : IsScenario plan) (well_too : IsScenario other) (schedule run : Schedule) (step : AreInStep renumber plan schedule other run) where
  pub same_stamps : (m g : ℕ) → GoesTo plan m g → time_of other run m (renumber g) ≡ time_of plan schedule m g
  same_stamps m g goes =
      let low = stamps_low used renumber back plan other is well well_too schedule run step m g goes in
      let high =
      stamps_low used back renumber other plan (turned renumber back plan other is) well_too well run schedule
      (step_back used renumber back plan other is well well_too schedule run step) m (renumber g) (goes_there renumber back plan other is m g goes) in
      let again : time_of plan schedule m (back (renumber g)) ≡ time_of plan schedule m g = ap (time_of plan schedule m) (is.back_again g) in
      omega arith
