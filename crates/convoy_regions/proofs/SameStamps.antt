-- Two schedules under which the same moments come before each arrival give the same stamps.
use Rattle.std.proofs.Common.{◌≡◌, ℕ, ◌+◌, ◌-◌, ◌<◌, ◌≤◌, zero, suc, true, false, inl, inr, length, sym, ap₂, subst, ◌∙◌, arith}
use Rattle.std.proofs.lemmas.Bool.{cases_lt}
use Rattle.std.proofs.lemmas.Bool.Decides.{nat_tests}
use Rattle.convoy_scenario.specs.Scenario.{Scenario, GoesTo}
use Rattle.convoy_scenario.specs.WellFormed.{IsScenario}
use Rattle.convoy_packets.specs.Assignment.{Schedule}
use Rattle.convoy_sim.specs.declared.timestamp.Timestamp.{Timestamp}
use Rattle.convoy_sim.specs.Moments.{is_before, arrival_of, commit_of}
use Rattle.convoy_sim.specs.Stamps.{is_less, local_stamp, final_stamp}
use Rattle.convoy_sim.specs.ProtocolLaws.{FinalStampIsLocal, LocalStampNamesGroup, NoLocalStampIsGreater, StampsRise, StampsRisePastCommit}
use Rattle.convoy_sim.specs.RaiseLaws.{IsCounted, IsLastRaise, IsRaise, LastRaise}

-- the laws of stamps
pub record StampLaws : Type 0 where
  pub raise : LastRaise
  pub rise : StampsRise
  pub past : StampsRisePastCommit
  pub names : LocalStampNamesGroup
  pub local : FinalStampIsLocal
  pub greatest : NoLocalStampIsGreater

-- what comes before an arrival at a group under one schedule does so under another
pub record KeepsOrder (plan : Scenario) (s r : Schedule) : Type 0 where
  pub arrivals : (z q h : ℕ) → GoesTo plan z h → GoesTo plan q h → is_before (arrival_of plan s z h) (arrival_of plan s q h) ≡ true → is_before (arrival_of plan r z h) (arrival_of plan r q h) ≡ true
  pub commits : (c q h : ℕ) → GoesTo plan c h → GoesTo plan q h → is_before (commit_of plan s c h) (arrival_of plan s q h) ≡ true → is_before (commit_of plan r c h) (arrival_of plan r q h) ≡ true

time_of_not_less : (a b : Timestamp) → is_less a b ≡ false → b.time ≤ a.time
time_of_not_less a b h = grind (arith, nat_tests)

-- two stamps neither of which is less have the same time and group
same_parts : (a b : Timestamp) → is_less a b ≡ false → is_less b a ≡ false → (a.time ≡ b.time) × (a.group ≡ b.group)
same_parts a b h i = grind (arith, nat_tests)

same_stamp : (a b : Timestamp) → a.time ≡ b.time → a.group ≡ b.group → a ≡ b
same_stamp a b t g = ap₂ (λ (time group : ℕ). stamp time group) t g where
  stamp : ℕ → ℕ → Timestamp
  stamp time group = record { time = time; group = group }

module _ (laws : StampLaws) (plan : Scenario) (well : IsScenario plan) where
  -- a local stamp has no greater time where what comes before arrivals also does so there
  stamp_no_later : (s r : Schedule) → KeepsOrder plan s r → (n q h : ℕ) → GoesTo plan q h → (local_stamp plan s q h).time ≤ n → (local_stamp plan s q h).time ≤ (local_stamp plan r q h).time
  stamp_no_later s r keeps zero q h goes most = omega arith
  stamp_no_later s r keeps (suc n) q h goes most =
      let raise = laws.raise plan s well q h goes in
      let last : IsLastRaise plan s q h raise.0 raise.1 = raise.2 in
      let below : raise.0 < (local_stamp plan s q h).time = last.below in
      let fewer = stamp_no_later s r keeps n in
      elim (cases_lt (raise.0 + 1) (local_stamp plan s q h).time) [
        | inl more ↦
            let u : ℕ = (local_stamp plan s q h).time - 1 in
            let z = last.counted u (omega arith) (omega arith) in
            let is : IsCounted plan s q h raise.1 u z.0 = z.1 in
            let stamp : (local_stamp plan s z.0 h).time ≡ u = is.stamp in
            let low = fewer z.0 h is.goes (omega arith) in
            let rise = laws.rise plan r well z.0 q h is.goes goes (keeps.arrivals z.0 q h is.goes goes is.first) in
            omega arith
        | inr one ↦ elim last.by [
          | inl none ↦
              let other = laws.raise plan r well q h goes in
              let there : IsLastRaise plan r q h other.0 other.1 = other.2 in
              let some : other.0 < (local_stamp plan r q h).time = there.below in
              omega (arith, none.0)
          | inr c ↦
              let is : IsRaise plan s q h c.0 c.1 raise.0 raise.1 = c.2 in
              let stamp : (local_stamp plan s c.0 c.1).time ≡ raise.0 = is.stamp in
              let low = fewer c.0 c.1 is.from (omega arith) in
              let final = time_of_not_less (final_stamp plan r c.0) (local_stamp plan r c.0 c.1) (laws.greatest plan r well c.0 c.1 is.from) in
              let rise = laws.past plan r well c.0 q h is.goes goes (keeps.commits c.0 q h is.goes goes is.first) in
              omega arith
        ]
      ]

  module _ (s r : Schedule) (there : KeepsOrder plan s r) (back : KeepsOrder plan r s) where
    pub same_local : (q h : ℕ) → GoesTo plan q h → local_stamp plan s q h ≡ local_stamp plan r q h
    same_local q h goes =
        let low = stamp_no_later s r there (local_stamp plan s q h).time q h goes (omega arith) in
        let high = stamp_no_later r s back (local_stamp plan r q h).time q h goes (omega arith) in
        same_stamp (local_stamp plan s q h) (local_stamp plan r q h) (omega arith)
        (laws.names plan s well q h goes ∙ sym (laws.names plan r well q h goes))

    pub same_final : (m : ℕ) → m < length plan.multicasts → final_stamp plan s m ≡ final_stamp plan r m
    same_final m known =
        let a = laws.local plan s well m known in
        let b = laws.local plan r well m known in
        let low : is_less (final_stamp plan s m) (final_stamp plan r m) ≡ false =
        subst (λ x. is_less (final_stamp plan s m) x ≡ false) (same_local m b.0 b.1 ∙ b.2) (laws.greatest plan s well m b.0 b.1) in
        let high : is_less (final_stamp plan r m) (final_stamp plan s m) ≡ false =
        subst (λ x. is_less (final_stamp plan r m) x ≡ false) (sym (same_local m a.0 a.1) ∙ a.2) (laws.greatest plan r well m a.0 a.1) in
        let parts = same_parts (final_stamp plan s m) (final_stamp plan r m) low high in
        same_stamp (final_stamp plan s m) (final_stamp plan r m) parts.0 parts.1
