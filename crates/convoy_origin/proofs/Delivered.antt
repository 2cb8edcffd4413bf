-- The tick of delivery as the first that passes a test.
use Rattle.std.proofs.Common.{◌≡◌, ℕ, ◌+◌, ◌-◌, ◌<◌, ◌≤◌, zero, suc, Bool, true, ◌&&◌, ◌||◌, not, nat_lt, nat_le, inl, inr, List, [], ◌∷◌, refl, sym, ap, ap₂, ◌∙◌, arith}
use Rattle.std.specs.List.{list_any}
use Rattle.std.proofs.lemmas.Bool.{cases_Bool, cases_eq, both_ways, cond-true, cond-false, and_parts, ltb-true, not_from_false, false_from_ne_true}
use Rattle.convoy_scenario.specs.Scenario.{Scenario, GoesTo}
use Rattle.convoy_packets.specs.Assignment.{Schedule}
use Rattle.convoy_sim.specs.Times.{arrive, settle}
use Rattle.convoy_sim.specs.Stamps.{is_less, local_stamp, final_stamp}
use Rattle.convoy_sim.specs.Delivery.{addressed_to, holds_back, is_free, first_tick, last_commit, deliver}
use Rattle.convoy_sim.proofs.Membership.{in_greatest, in_of_list_any}
use Rattle.convoy_sim.proofs.Addressed.{in-addressed}

-- the first tick that passes a test is no later than any that does
first_no_later : (test : ℕ → Bool) (more start tick : ℕ) → start ≤ tick → test tick ≡ true → first_tick test more start ≤ tick
first_no_later test zero start tick l passes = l
first_no_later test (suc more) start tick l passes = elim (cases_Bool (test start)) [
  | inl e ↦ let here : first_tick test (suc more) start ≡ start = cond-true (test start) start (first_tick test more (start + 1)) e in omega arith
  | inr e ↦
      let later : first_tick test (suc more) start ≡ first_tick test more (start + 1) = cond-false (test start) start (first_tick test more (start + 1)) e in
      elim (cases_eq start tick) [
        | inl same ↦ absurd (both_ways (test start) e (ap test same ∙ passes))
        | inr differs ↦ let rest = first_no_later test more (start + 1) tick (omega arith) passes in omega arith
      ]
]

-- it passes, if the last one does
first_passes : (test : ℕ → Bool) (more start : ℕ) → test (start + more) ≡ true
    → (start ≤ first_tick test more start) × (test (first_tick test more start) ≡ true)
first_passes test zero start last = let same : start + 0 ≡ start = omega arith in (omega arith, ap test (sym same) ∙ last)
first_passes test (suc more) start last = elim (cases_Bool (test start)) [
  | inl e ↦
      let here : first_tick test (suc more) start ≡ start = cond-true (test start) start (first_tick test more (start + 1)) e in
      (omega arith, ap test here ∙ e)
  | inr e ↦
      let later : first_tick test (suc more) start ≡ first_tick test more (start + 1) = cond-false (test start) start (first_tick test more (start + 1)) e in
      let same : start + 1 + more ≡ start + suc more = omega arith in
      let rest = first_passes test more (start + 1) (ap test same ∙ last) in
      let past = rest.0 in
      (omega arith, ap test later ∙ rest.1)
]

-- tests that agree let through one of the same
any_same : {X : Type 0} (p q : X → Bool) (xs : List X) → ((x : X) → p x ≡ q x) → list_any p xs ≡ list_any q xs
any_same p q [] h = refl
any_same p q (x ∷ xs) h = ap₂ (λ a b. a || b) (h x) (any_same p q xs h)

module _ (plan : Scenario) (schedule : Schedule) (m g : ℕ) where
  -- a tick at which nothing holds the message back, once it is committed, is no earlier than its delivery
  pub delivered_by : (tick : ℕ) → settle plan schedule m g ≤ tick → is_free plan schedule m g tick ≡ true → deliver plan schedule m g ≤ tick
  unfolding deliver
  delivered_by tick l free =
      first_no_later (is_free plan schedule m g) (last_commit plan schedule g (addressed_to plan g) - settle plan schedule m g) (settle plan schedule m g) tick l free

  last_of_hold : (tick n : ℕ) → holds_back plan schedule m g tick n ≡ true → tick < settle plan schedule n g
  unfolding holds_back
  last_of_hold tick n h =
      ltb-true _ _
      (and_parts (nat_le (arrive plan schedule n g) tick && is_less (local_stamp plan schedule n g) (final_stamp plan schedule m))
      (nat_lt tick (settle plan schedule n g)) h).1

  free_at_last : (tick : ℕ) → last_commit plan schedule g (addressed_to plan g) ≤ tick → is_free plan schedule m g tick ≡ true
  free_at_last tick l = not_from_false _ (false_from_ne_true _ (λ any.
      let r = in_of_list_any (holds_back plan schedule m g tick) (addressed_to plan g) any in
      let most = in_greatest (λ n. settle plan schedule n g) r.0 (addressed_to plan g) r.1 in
      let waits = last_of_hold tick r.0 r.2 in
      omega arith))

  -- at its delivery a message is committed, and nothing holds it back
  pub delivered_free : GoesTo plan m g → (settle plan schedule m g ≤ deliver plan schedule m g) × (is_free plan schedule m g (deliver plan schedule m g) ≡ true)
  unfolding deliver
  delivered_free goes =
      let settled : ℕ = settle plan schedule m g in
      let last : ℕ = last_commit plan schedule g (addressed_to plan g) in
      let most = in_greatest (λ n. settle plan schedule n g) m (addressed_to plan g) (in-addressed plan m g goes) in
      first_passes (is_free plan schedule m g) (last - settled) settled (free_at_last (settled + (last - settled)) (omega arith))

-- what holds a message back at a tick of one run and at another of a second: it has come, it has a lesser stamp, and it is not committed
pub record IsSameHold (plan : Scenario) (schedule : Schedule) (other : Scenario) (run : Schedule) (m g tick late : ℕ) : Type 0 where
  pub goes : addressed_to other g ≡ addressed_to plan g
  pub come : (n : ℕ) → nat_le (arrive plan schedule n g) tick ≡ nat_le (arrive other run n g) late
  pub local : (n : ℕ) → local_stamp plan schedule n g ≡ local_stamp other run n g
  pub final : final_stamp plan schedule m ≡ final_stamp other run m
  pub waits : (n : ℕ) → nat_lt tick (settle plan schedule n g) ≡ nat_lt late (settle other run n g)

pub free_same : (plan : Scenario) (schedule : Schedule) (other : Scenario) (run : Schedule) (m g tick late : ℕ)
    → IsSameHold plan schedule other run m g tick late → is_free plan schedule m g tick ≡ is_free other run m g late
unfolding holds_back
free_same plan schedule other run m g tick late is =
    ap not
    (any_same (holds_back plan schedule m g tick) (holds_back other run m g late) (addressed_to plan g)
    (λ n. ap₂ (λ a b. a && b) (ap₂ (λ a b. a && b) (is.come n) (ap₂ is_less (is.local n) is.final)) (is.waits n))
    ∙ ap (list_any (holds_back other run m g late)) (sym is.goes))
