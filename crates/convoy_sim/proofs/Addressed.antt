-- Which messages go to which groups, by membership in lists. This file is open to the crates above.
use Rattle.std.proofs.Common.{◌≡◌, ℕ, ◌<◌, true, ◌==◌, inl, inr, length, refl, subst, arith}
use Rattle.std.proofs.lemmas.Bool.{cases_lt, false≢true, eq-eqb, eqb-true}
use Rattle.std.proofs.lemmas.List.{get_or_past}
use Rattle.convoy_scenario.specs.Scenario.{Scenario, no_message, message_at, message_numbers, is_addressed, GoesTo}
use Rattle.convoy_packets.specs.Assignment.{Schedule}
use Rattle.convoy_sim.specs.Stamps.{is_less, local_stamp, final_stamp}
use Rattle.convoy_sim.specs.Delivery.{addressed_to}
use Rattle.convoy_sim.specs.ProtocolLaws.{ahead_of}
use Rattle.convoy_sim.proofs.Membership.{IsIn, in-range, in-filter, in_of_filter, list_any_in, in_of_list_any}

pub in_of_goes : (plan : Scenario) (m g : ℕ) → GoesTo plan m g → IsIn g (message_at plan m).destinations
in_of_goes plan m g h =
    let r = in_of_list_any (λ x. x == g) (message_at plan m).destinations h in
    subst (λ x. IsIn x (message_at plan m).destinations) (eqb-true r.0 g r.2) r.1

pub goes_from_in : (plan : Scenario) (m g : ℕ) → IsIn g (message_at plan m).destinations → GoesTo plan m g
goes_from_in plan m g i = list_any_in (λ x. x == g) g (message_at plan m).destinations i (eq-eqb g g refl)

-- what goes somewhere is a message of the scenario
pub number_of_goes : (plan : Scenario) (m g : ℕ) → GoesTo plan m g → m < length plan.multicasts
number_of_goes plan m g h = elim (cases_lt m (length plan.multicasts)) [
  | inl l ↦ l
  | inr l ↦ absurd (false≢true (subst (λ x. is_addressed x g ≡ true) (get_or_past plan.multicasts m no_message l) h))
]

pub in-numbers : (plan : Scenario) (m g : ℕ) → GoesTo plan m g → IsIn m (message_numbers plan)
in-numbers plan m g h = in-range m 0 (length plan.multicasts) (omega arith) (let l = number_of_goes plan m g h in omega arith)

pub in-addressed : (plan : Scenario) (m g : ℕ) → GoesTo plan m g → IsIn m (addressed_to plan g)
in-addressed plan m g h = in-filter (λ n. is_addressed (message_at plan n) g) m (message_numbers plan) (in-numbers plan m g h) h

pub goes_of_addressed : (plan : Scenario) (m g : ℕ) → IsIn m (addressed_to plan g) → GoesTo plan m g
goes_of_addressed plan m g i = (in_of_filter (λ n. is_addressed (message_at plan n) g) m (message_numbers plan) i).1

-- what is ahead of a message at a group goes there with a lesser stamp
pub in_of_ahead : (plan : Scenario) (schedule : Schedule) (n m g : ℕ) → IsIn n (ahead_of plan schedule m g)
    → GoesTo plan n g × (is_less (local_stamp plan schedule n g) (final_stamp plan schedule m) ≡ true)
in_of_ahead plan schedule n m g i =
    let r = in_of_filter (λ k. is_less (local_stamp plan schedule k g) (final_stamp plan schedule m)) n (addressed_to plan g) i in
    (goes_of_addressed plan n g r.0, r.1)
