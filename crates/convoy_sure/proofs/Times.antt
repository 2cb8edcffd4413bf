-- What the tests of the order of arrivals say of moments.
use Rattle.std.proofs.Common.{◌≡◌, ℕ, ◌<◌, ◌≤◌, true, ◌⊎◌, nat_lt, inl, inr, refl, arith}
use Rattle.std.proofs.lemmas.Bool.{cases_Bool, cases_lt, ltb-true}
use Rattle.std.proofs.lemmas.Bool.Decides.{nat_tests}
use Rattle.convoy_draft.specs.declared.time.Time.{Time}
use Rattle.convoy_draft.specs.declared.time.Time.TheVariants.{Ticks, Real}
use Rattle.convoy_scenario.specs.Scenario.{Scenario}
use Rattle.convoy_packets.specs.Assignment.{Schedule}
use Rattle.convoy_sim.specs.Times.{arrive}
use Rattle.convoy_sim.specs.Moments.{is_before, arrival_of}
use Rattle.convoy_sim.proofs.MomentsOrder.{before_by_tick}
use Rattle.convoy_stamps.proofs.Arrivals.{first_in_tick}
use Rattle.convoy_sure.specs.SureLeads.{is_first, is_earlier}

first_parts : (a z b q : ℕ) → is_first a z b q ≡ true → (a < b) ⊎ ((a ≡ b) × (z < q))
first_parts a z b q t = elim (cases_Bool (nat_lt a b)) [
  | inl e ↦ inl (ltb-true a b e)
  | inr e ↦ inr (grind (arith, nat_tests, t, e), grind (arith, nat_tests, t, e))
]

-- a message that arrives at a group by a tick does so before another that arrives there no sooner than at some tick, if this is surely so
pub surely_before : (scenario : Scenario) (schedule : Schedule) (q z g by low : ℕ)
    → arrive scenario schedule q g ≤ by → low ≤ arrive scenario schedule z g → is_earlier scenario.time by q low z ≡ true
    → is_before (arrival_of scenario schedule q g) (arrival_of scenario schedule z g) ≡ true
surely_before scenario schedule q z g by low soon late test = by_time scenario.time refl test where
  by_time : (time : Time) → scenario.time ≡ time → is_earlier time by q low z ≡ true → is_before (arrival_of scenario schedule q g) (arrival_of scenario schedule z g) ≡ true
  by_time Ticks whole t = elim (first_parts by q low z t) [
    | inl a ↦ before_by_tick (arrival_of scenario schedule q g) (arrival_of scenario schedule z g) (omega arith)
    | inr a ↦ elim (cases_lt (arrive scenario schedule q g) (arrive scenario schedule z g)) [
      | inl l ↦ before_by_tick (arrival_of scenario schedule q g) (arrival_of scenario schedule z g) l
      | inr m ↦ first_in_tick scenario schedule q z g whole (omega (arith, a.0)) a.1
    ]
  ]
  by_time Real real t =
      let less : by < low = ltb-true by low t in
      before_by_tick (arrival_of scenario schedule q g) (arrival_of scenario schedule z g) (omega arith)
