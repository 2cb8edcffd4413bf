-- The order of arrivals and commits, and the times of stamps, as the laws of the crates below have them. This file is open to the crates above.
use Rattle.std.proofs.Common.{◌≡◌, ◌≢◌, ℕ, ◌<◌, ◌≤◌, true, false, ◌⊎◌, inl, inr, length, refl, sym, subst, arith}
use Rattle.std.proofs.lemmas.Bool.{cases_Bool, cases_lt, both_ways}
use Rattle.std.proofs.lemmas.Bool.Decides.{nat_tests}
use Rattle.convoy_draft.specs.declared.time.Time.{Time}
use Rattle.convoy_draft.specs.declared.time.Time.TheVariants.{Ticks, Real}
use Rattle.convoy_scenario.specs.Scenario.{Scenario, message_at, message_numbers, is_addressed, GoesTo}
use Rattle.convoy_scenario.specs.WellFormed.{IsScenario}
use Rattle.convoy_packets.specs.Assignment.{Schedule}
use Rattle.convoy_sim.specs.declared.moment.Moment.{Moment}
use Rattle.convoy_sim.specs.declared.moment.MomentKind.TheVariants.{Arrival}
use Rattle.convoy_sim.specs.Times.{arrive}
use Rattle.convoy_sim.specs.Moments.{is_before, arrival_of, arrival_rank, commit_of, next_arrival}
use Rattle.convoy_sim.specs.Stamps.{local_stamp}
use Rattle.convoy_sim.specs.Delivery.{addressed_to}
use Rattle.convoy_sim.specs.ProtocolLaws.{StampsRise}
use Rattle.convoy_sim.specs.RaiseLaws.{LastRaise}
use Rattle.convoy_sim.proofs.Membership.{IsOnce, once-range}
use Rattle.convoy_sim.proofs.MomentsOrder.{before_itself, before_total, before_trans}
use Rattle.convoy_sim.proofs.MomentTicks.{rank_in_ticks}
use Rattle.convoy_sim.proofs.ScenarioMoments.{coming_in}
use Rattle.convoy_sim.proofs.StampLaws.{comings_before_commit}
use Rattle.convoy_stamps.proofs.Counting.{once-filter}

-- ---- the order of moments
-- an arrival of a message is before each of its commits
pub arrives_first : (scenario : Scenario) (schedule : Schedule) (m h g : ℕ) → GoesTo scenario m h
    → is_before (arrival_of scenario schedule m h) (commit_of scenario schedule m g) ≡ true
arrives_first scenario schedule m h g goes =
    comings_before_commit scenario schedule m g (arrival_of scenario schedule m h) (coming_in scenario schedule m h goes) refl refl

-- so what is committed at a group before a message arrives there is none that arrives somewhere no sooner than that
pub committed_is_other : (scenario : Scenario) (schedule : Schedule) (c n k m g : ℕ) → GoesTo scenario m g
    → is_before (arrival_of scenario schedule m g) (arrival_of scenario schedule n k) ≡ false
    → is_before (commit_of scenario schedule c k) (arrival_of scenario schedule n k) ≡ true → c ≢ m
committed_is_other scenario schedule c n k m g goes late before same =
    let own : Moment = arrival_of scenario schedule m g in
    let next : Moment = arrival_of scenario schedule n k in
    let first : is_before own (commit_of scenario schedule c k) ≡ true =
    subst (λ i. is_before own (commit_of scenario schedule i k) ≡ true) (sym same) (arrives_first scenario schedule m g k goes) in
    both_ways (is_before own next) late (before_trans own (commit_of scenario schedule c k) next first before)

-- a message that arrives before another is another one
pub arrives_before_other : (scenario : Scenario) (schedule : Schedule) (a b g : ℕ)
    → is_before (arrival_of scenario schedule a g) (arrival_of scenario schedule b g) ≡ true → a ≢ b
arrives_before_other scenario schedule a b g before same =
    let first : Moment = arrival_of scenario schedule a g in
    both_ways (is_before first (arrival_of scenario schedule b g))
    (subst (λ m. is_before first (arrival_of scenario schedule m g) ≡ false) same (before_itself first)) before

-- an arrival may follow a later commit no sooner
pub next_rises : (time : Time) (a b : ℕ) → a ≤ b → next_arrival time a ≤ next_arrival time b
next_rises Ticks a b l = omega arith
next_rises Real a b l = l

-- in whole ticks, of two arrivals at a group in one tick that of the lesser message is before the other, ..
pub first_in_tick : (scenario : Scenario) (schedule : Schedule) (a b g : ℕ) → scenario.time ≡ Ticks
    → arrive scenario schedule a g ≡ arrive scenario schedule b g → a < b
    → is_before (arrival_of scenario schedule a g) (arrival_of scenario schedule b g) ≡ true
first_in_tick scenario schedule a b g whole same less =
    by_numbers (arrive scenario schedule a g) (arrive scenario schedule b g) (arrival_rank scenario schedule a g) (arrival_rank scenario schedule b g)
    same (rank_in_ticks scenario schedule a g whole) (rank_in_ticks scenario schedule b g whole) where
      by_numbers : (s t i j : ℕ) → s ≡ t → i ≡ 0 → j ≡ 0
          → is_before (record { tick = s; rank = i; kind = Arrival; message = a; group = g }) (record { tick = t; rank = j; kind = Arrival; message = b; group = g }) ≡ true
      by_numbers s t i j e x y = grind (arith, nat_tests, e, x, y, less)

-- .. and of two in order the ticks, and in one tick the messages, are in order
pub parts_in_ticks : (scenario : Scenario) (schedule : Schedule) (a b g : ℕ) → scenario.time ≡ Ticks
    → is_before (arrival_of scenario schedule a g) (arrival_of scenario schedule b g) ≡ true
    → (arrive scenario schedule a g < arrive scenario schedule b g) ⊎ ((arrive scenario schedule a g ≡ arrive scenario schedule b g) × (a < b))
parts_in_ticks scenario schedule a b g whole before =
    by_numbers (arrive scenario schedule a g) (arrive scenario schedule b g) (arrival_rank scenario schedule a g) (arrival_rank scenario schedule b g)
    (rank_in_ticks scenario schedule a g whole) (rank_in_ticks scenario schedule b g whole) before where
      by_numbers : (s t i j : ℕ) → i ≡ 0 → j ≡ 0
          → is_before (record { tick = s; rank = i; kind = Arrival; message = a; group = g }) (record { tick = t; rank = j; kind = Arrival; message = b; group = g }) ≡ true
          → (s < t) ⊎ ((s ≡ t) × (a < b))
      by_numbers s t i j x y h = elim (cases_lt s t) [
        | inl l ↦ inl l
        | inr m ↦ inr (grind (arith, nat_tests, h, m), grind (arith, nat_tests, h, m, x, y))
      ]

-- ---- times of stamps
pub once-addressed : (scenario : Scenario) (g : ℕ) → IsOnce (addressed_to scenario g)
once-addressed scenario g = once-filter (λ n. is_addressed (message_at scenario n) g) (message_numbers scenario) (once-range 0 (length scenario.multicasts))

-- messages of one time at a group are one
pub one_time : StampsRise → (scenario : Scenario) (schedule : Schedule) → IsScenario scenario → (g a b : ℕ) → GoesTo scenario a g → GoesTo scenario b g
    → (local_stamp scenario schedule a g).time ≡ (local_stamp scenario schedule b g).time → a ≡ b
one_time rise scenario schedule well g a b to_a to_b same =
    let p : Moment = arrival_of scenario schedule a g in
    let q : Moment = arrival_of scenario schedule b g in
    elim (cases_Bool (is_before p q)) [
      | inl e ↦ let up = rise scenario schedule well a b g to_a to_b e in absurd (omega arith)
      | inr e ↦ elim (cases_Bool (is_before q p)) [
        | inl f ↦ let up = rise scenario schedule well b a g to_b to_a f in absurd (omega arith)
        | inr f ↦ (before_total p q e f).3
      ]
    ]

pub stamp_positive : LastRaise → (scenario : Scenario) (schedule : Schedule) → IsScenario scenario → (m g : ℕ) → GoesTo scenario m g
    → 0 < (local_stamp scenario schedule m g).time
stamp_positive raise scenario schedule well m g goes = let l = (raise scenario schedule well m g goes).2.below in omega arith
