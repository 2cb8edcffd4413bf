-- A message that leads leave out is not ahead of the target.
use Rattle.std.proofs.Common.{◌≡◌, ℕ, ◌+◌, ◌-◌, ◌<◌, ◌≤◌, Bool, true, ◌==◌, ◌||◌, inl, inr, List, [], ◌∷◌, sym, subst, ap, ◌∙◌, arith}
use Rattle.std.specs.List.{list_all}
use Rattle.std.proofs.lemmas.Bool.{and_parts, or_cases, eqb-true}
use Rattle.std.proofs.lemmas.Bool.Decides.{nat_tests}
use Rattle.convoy_scenario.specs.Scenario.{Scenario, message_at, GoesTo}
use Rattle.convoy_scenario.specs.WellFormed.{IsScenario}
use Rattle.convoy_packets.specs.Assignment.{Schedule, IsAssignment}
use Rattle.convoy_sim.specs.declared.timestamp.Timestamp.{Timestamp}
use Rattle.convoy_sim.specs.Times.{arrive}
use Rattle.convoy_sim.specs.Moments.{arrival_of, commit_of}
use Rattle.convoy_sim.specs.Stamps.{is_less, local_stamp, final_stamp}
use Rattle.convoy_sim.proofs.Membership.{IsIn, in_greatest}
use Rattle.convoy_sim.proofs.Addressed.{in_of_goes}
use Rattle.convoy_sim.proofs.MomentsOrder.{before_one_way}
use Rattle.convoy_stamps.proofs.Arrivals.{arrives_first}
use Rattle.convoy_starts.specs.Below.{LawsBelow}
use Rattle.convoy_sure.specs.Windows.{LeadTables, EnclosesAll}
use Rattle.convoy_sure.specs.SureLeads.{Sure, sure_of, is_earlier}
use Rattle.convoy_sure.specs.SureLaws.{IsSure}
use Rattle.convoy_starts.specs.Starts.{Start, first_past, stamp_high, starts_before, last_arrival, is_surely_less}
use Rattle.convoy_leads.specs.Leads.{is_led}
use Rattle.convoy_starts.proofs.StartLaws.{stamp_within, have_starts}
use Rattle.convoy_starts.proofs.Times.{first_past_rises}

pub list_all_in : {X : Type 0} (p : X → Bool) (x : X) (xs : List X) → list_all p xs ≡ true → IsIn x xs → p x ≡ true
list_all_in p x [] h i = absurd i
list_all_in p x (y ∷ ys) h (inl e) = ap p (sym e) ∙ (and_parts (p y) (list_all p ys) h).0
list_all_in p x (y ∷ ys) h (inr i) = list_all_in p x ys (and_parts (p y) (list_all p ys) h).1 i

-- a stamp of the target no further than a bound above what is left of a rival's
not_ahead : (n t : Timestamp) (sure most g h : ℕ) → is_less n t ≡ true → n.group ≡ g → t.group ≡ h → sure ≤ n.time → t.time ≤ (n.time - sure) + most
    → is_less (record { time = most; group = h }) (record { time = sure; group = g }) ≡ true → ⊥
not_ahead n t sure most g h l e f s a c = grind (arith, nat_tests, l, e, f, s, a, c)

-- of two stamps of one group, the one of lesser time is not ahead
not_ahead_here : (n t : Timestamp) → is_less n t ≡ true → t.time < n.time → ⊥
not_ahead_here n t l a = grind (arith, nat_tests, l, a)

pub led_is_behind : (below : LawsBelow) (scenario : Scenario) (schedule : Schedule) (tables : LeadTables) → IsScenario scenario → IsAssignment scenario schedule → EnclosesAll scenario schedule tables → (barring : Bool) (n : ℕ)
    → GoesTo scenario n scenario.target_group
    → is_less (local_stamp scenario schedule n scenario.target_group) (final_stamp scenario schedule scenario.target_message) ≡ true
    → is_led scenario tables barring n ≡ true → ⊥
unfolding is_led
led_is_behind below scenario schedule tables well assigned enclosed barring n goes ahead led =
    let t : ℕ = scenario.target_message in
    let g : ℕ = scenario.target_group in
    let sure : Sure = sure_of scenario tables.times n in
    let past : ℕ = first_past scenario.time (last_arrival scenario tables.times) in
    let starts : List Start = starts_before scenario tables sure barring past in
    let high : ℕ → ℕ = λ h. stamp_high scenario tables.times sure starts t t h (tables.times.greatest_arrival t h) in
    let test : ℕ → Bool = λ h. (h == g) || is_surely_less scenario tables.times sure starts h in
    let parts = and_parts (is_earlier scenario.time (tables.times.greatest_arrival t g) t (tables.times.least_arrival n g) n) (list_all test (message_at scenario t).destinations) led in
    let f = below.is_local scenario schedule well t well.target in
    let h : ℕ = f.0 in
    let less : is_less (local_stamp scenario schedule n g) (local_stamp scenario schedule t h) ≡ true = subst (λ s. is_less (local_stamp scenario schedule n g) s ≡ true) (sym f.2) ahead in
    let holds : IsSure scenario schedule tables.times n sure = below.sure scenario schedule tables.times well enclosed.times n goes in
    elim (or_cases (h == g) (is_surely_less scenario tables.times sure starts h)
    (list_all_in test h (message_at scenario t).destinations parts.1 (in_of_goes scenario t h f.1))) [
      | inl e ↦
          let same : h ≡ g = eqb-true h g e in
          let here = below.arrivals_rise scenario schedule tables.times well enclosed.times t g (tables.times.greatest_arrival t g) well.addressed
          (enclosed.times.arrival_high t g well.addressed) n goes parts.0 in
          not_ahead_here (local_stamp scenario schedule n g) (local_stamp scenario schedule t g)
          (subst (λ k. is_less (local_stamp scenario schedule n g) (local_stamp scenario schedule t k) ≡ true) same less) here
      | inr e ↦
          let late : arrive scenario schedule t h ≤ tables.times.greatest_arrival t h = enclosed.times.arrival_high t h f.1 in
          let last : tables.times.greatest_arrival t h ≤ last_arrival scenario tables.times =
          in_greatest (λ k. tables.times.greatest_arrival t k) h (message_at scenario t).destinations (in_of_goes scenario t h f.1) in
          let clear = λ (k : ℕ) (to : GoesTo scenario t k).
          before_one_way (arrival_of scenario schedule t h) (commit_of scenario schedule t k) (arrives_first scenario schedule t h k f.1) in
          let most = stamp_within below scenario schedule tables well assigned enclosed n sure holds starts past
          (have_starts below scenario schedule tables well assigned enclosed n sure holds barring past)
          t t h (tables.times.greatest_arrival t h) f.1 late
          (first_past_rises scenario.time (arrive scenario schedule t h) (last_arrival scenario tables.times) (omega arith)) clear clear in
          not_ahead (local_stamp scenario schedule n g) (local_stamp scenario schedule t h) sure.time (high h) g h less
          (below.names scenario schedule well n g goes) (below.names scenario schedule well t h f.1) holds.time_holds most e
    ]
