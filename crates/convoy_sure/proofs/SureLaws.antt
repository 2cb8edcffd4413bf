-- The law of sure leads: the stamp of a message at the target's group exceeds each other one by what its table of leads says.
use Rattle.std.proofs.Common.{◌≡◌, ℕ, ◌+◌, ◌-◌, ◌*◌, ◌<◌, ◌≤◌, zero, suc, max, Bool, true, ◌==◌, ◌⊎◌, nat_lt, inl, inr, List, [], ◌∷◌, length, map, replicate, get_or, slice_set, fold, refl, sym, ap, ap₂, subst, arith}
use Rattle.std.proofs.lemmas.Bool.{cases_Bool, cond-true, cond-false, ltb-true, eqb-true}
use Rattle.std.specs.List.{filter, range_with_len}
use Rattle.convoy_draft.specs.declared.limits.TheConstants.{MOST_GROUPS}
use Rattle.convoy_scenario.specs.Scenario.{Scenario, message_at, no_message, GoesTo}
use Rattle.convoy_scenario.specs.WellFormed.{IsScenario}
use Rattle.convoy_packets.specs.Assignment.{Schedule}
use Rattle.convoy_sim.specs.Times.{arrive, settle}
use Rattle.convoy_sim.specs.Moments.{arrival_of, commit_of}
use Rattle.convoy_sim.specs.Stamps.{local_stamp, final_stamp}
use Rattle.convoy_sim.specs.Delivery.{addressed_to}
use Rattle.convoy_packets.specs.Order.{place}
use Rattle.convoy_sim.proofs.Membership.{IsIn, in_of_filter, greatest_most, all-in}
use Rattle.convoy_sim.proofs.Addressed.{goes_of_addressed, goes_from_in, in_of_goes, number_of_goes}
use Rattle.convoy_sim.proofs.MomentsOrder.{before_by_tick, time_of_not_less}
use Rattle.convoy_intervals.specs.Bounds.{Tables, Encloses}
use Rattle.convoy_stamps.specs.declared.pair.Pair.{Pair}
use Rattle.convoy_stamps.specs.Reach.{IsPair, pairs_of}
use Rattle.convoy_stamps.proofs.Arrivals.{once-addressed, one_time, stamp_positive}
use Rattle.convoy_stamps.proofs.Counting.{once-filter}
use Rattle.convoy_stamps.proofs.Pairs.{goes_of_pair}
use Rattle.convoy_sure.specs.SureLeads.{is_earlier, sure_after, sure_later, sure_behind, lead_at, top_of, top_behind, next_lead, with_lead, is_later, insert_pair, last_first, first_leads, leads_of, sure_time}
use Rattle.convoy_sure.specs.SureLaws.{SureArrivalsRise, SureLeadsHold, WhatIsSureHolds}
use Rattle.convoy_sure.specs.Below.{LawsBelow}
use Rattle.convoy_sure.proofs.Times.{surely_before}
use Rattle.convoy_sure.proofs.Tops.{top_within}

-- ---- lists
pub set_cases : (xs : List ℕ) (i j v : ℕ) → ((i ≡ j) × (get_or (slice_set xs i v) j 0 ≡ v)) ⊎ (get_or (slice_set xs i v) j 0 ≡ get_or xs j 0)
set_cases [] i j v = inr refl
set_cases (x ∷ xs) zero zero v = inl (refl, refl)
set_cases (x ∷ xs) zero (suc j) v = inr refl
set_cases (x ∷ xs) (suc i) zero v = inr refl
set_cases (x ∷ xs) (suc i) (suc j) v = elim (set_cases xs i j v) [
  | inl e ↦ inl (ap suc e.0, e.1)
  | inr e ↦ inr e
]

pub same_place : (m g n h : ℕ) → g < MOST_GROUPS → h < MOST_GROUPS → place m g ≡ place n h → (m ≡ n) × (g ≡ h)
same_place m g n h a b e = (omega arith, omega arith)

in_of_insert_pair : (tables : Tables) (p z : Pair) (qs : List Pair) → IsIn z (insert_pair tables qs p) → (p ≡ z) ⊎ IsIn z qs
in_of_insert_pair tables p z [] h = h
in_of_insert_pair tables p z (q ∷ qs) h =
    let rest = in_of_insert_pair tables p z qs in
    elim (cases_Bool (is_later tables p q)) [
      | inl e ↦ subst (IsIn z) (cond-true (is_later tables p q) (p ∷ q ∷ qs) (q ∷ insert_pair tables qs p) e) h
      | inr e ↦ elim (subst (IsIn z) (cond-false (is_later tables p q) (p ∷ q ∷ qs) (q ∷ insert_pair tables qs p) e) h) [
        | inl s ↦ inr (inl s)
        | inr r ↦ elim (rest r) [ inl s ↦ inl s | inr t ↦ inr (inr t) ]
      ]
    ]

in_of_inserted : (tables : Tables) (z : Pair) (qs ps : List Pair) → IsIn z (fold (insert_pair tables) qs ps) → IsIn z qs ⊎ IsIn z ps
in_of_inserted tables z qs [] h = inl h
in_of_inserted tables z qs (p ∷ ps) h = elim (in_of_inserted tables z (insert_pair tables qs p) ps h) [
  | inl t ↦ elim (in_of_insert_pair tables p z qs t) [ inl s ↦ inr (inl s) | inr r ↦ inl r ]
  | inr t ↦ inr (inr t)
]

pub group_is_low : (scenario : Scenario) → IsScenario scenario → (m g : ℕ) → GoesTo scenario m g → g < MOST_GROUPS
group_is_low scenario well m g goes =
    let known = all-in (λ h. h < length scenario.groups) g (message_at scenario m).destinations
    (well.messages m no_message (number_of_goes scenario m g goes)).known (in_of_goes scenario m g goes) in
    let few = well.groups_high in
    omega arith

module _ (below : LawsBelow) (scenario : Scenario) (schedule : Schedule) (tables : Tables) (well : IsScenario scenario) (enclosed : Encloses scenario schedule tables) where
  abbrev pub time_of : ℕ → ℕ → ℕ
  time_of m g = (local_stamp scenario schedule m g).time

  -- what surely comes after a coming has a greater time
  pub after_rises : (q g tick : ℕ) → GoesTo scenario q g → arrive scenario schedule q g ≤ tick → (z : ℕ) → GoesTo scenario z g
      → is_earlier scenario.time tick q (tables.least_arrival z g) z ≡ true → time_of q g < time_of z g
  after_rises q g tick goes l z to t =
      below.rise scenario schedule well q z g goes to
      (surely_before scenario schedule q z g tick (tables.least_arrival z g) l (enclosed.arrival_low z g to) t)

  -- what surely comes after a commit has a greater time than each stamp of its message
  pub later_rises : (q g y tick : ℕ) → GoesTo scenario q g → GoesTo scenario q y → settle scenario schedule q y ≤ tick → (z : ℕ) → GoesTo scenario z y
      → nat_lt tick (tables.least_arrival z y) ≡ true → time_of q g < time_of z y
  later_rises q g y tick goes at l z to t =
      let low = enclosed.arrival_low z y to in
      let sure = ltb-true tick (tables.least_arrival z y) t in
      let past = below.rise_past scenario schedule well q z y at to (before_by_tick (commit_of scenario schedule q y) (arrival_of scenario schedule z y) (omega arith)) in
      let most = time_of_not_less (final_stamp scenario schedule q) (local_stamp scenario schedule q g) (below.not_greater scenario schedule well q g goes) in
      omega arith

module _ (below : LawsBelow) (scenario : Scenario) (schedule : Schedule) (tables : Tables) (well : IsScenario scenario) (enclosed : Encloses scenario schedule tables) (n : ℕ) (goes_n : GoesTo scenario n scenario.target_group) where
  abbrev pub time : ℕ → ℕ → ℕ
  time m g = (local_stamp scenario schedule m g).time

  -- the time that all is measured against
  abbrev pub own : ℕ
  own = time n scenario.target_group

  -- each lead is sure
  abbrev pub AreSure : List ℕ → Type 0
  AreSure leads = (m g : ℕ) → GoesTo scenario m g → lead_at leads m g ≤ (own + 1) - time m g

  -- some messages to a group, all of a time above v there
  pub top_sure : (leads : List ℕ) → AreSure leads → (g v : ℕ) (test : ℕ → Bool)
      → ((z : ℕ) → GoesTo scenario z g → test z ≡ true → v < time z g)
      → top_of (λ z. lead_at leads z g) (filter test (addressed_to scenario g)) ≤ (own + 1) - v
  top_sure leads sure g v test above =
      top_within (λ z. time z g) (λ z. lead_at leads z g) (filter test (addressed_to scenario g)) (own + 1) v
      (once-filter test (addressed_to scenario g) (once-addressed scenario g))
      (λ a b i j e. one_time below.rise scenario schedule well g a b (to a i) (to b j) e)
      (λ z i. above z (to z i) (in_of_filter test z (addressed_to scenario g) i).1)
      (λ z i. sure z g (to z i)) where
        to : (z : ℕ) → IsIn z (filter test (addressed_to scenario g)) → GoesTo scenario z g
        to z i = goes_of_addressed scenario z g (in_of_filter test z (addressed_to scenario g) i).0

  behind_sure : (leads : List ℕ) → AreSure leads → (q g y : ℕ) → GoesTo scenario q g → GoesTo scenario q y
      → top_of (λ z. lead_at leads z y) (sure_behind scenario tables q g y) ≤ (own + 1) - time q g
  behind_sure leads sure q g y goes at = elim (cases_Bool (y == g)) [
    | inl e ↦
        let same : y ≡ g = eqb-true y g e in
        let here = top_sure leads sure g (time q g) (λ z. is_earlier scenario.time (tables.greatest_arrival q g) q (tables.least_arrival z g) z)
        (after_rises below scenario schedule tables well enclosed q g (tables.greatest_arrival q g) goes (enclosed.arrival_high q g goes)) in
        subst (λ l. top_of (λ z. lead_at leads z y) l ≤ (own + 1) - time q g)
        (sym (cond-true (y == g) (sure_after scenario tables (tables.greatest_arrival q g) q g) (sure_later scenario tables (tables.greatest_settling q y) y) e))
        (subst (λ k. top_of (λ z. lead_at leads z k) (sure_after scenario tables (tables.greatest_arrival q g) q g) ≤ (own + 1) - time q g) (sym same) here)
    | inr e ↦
        let there = top_sure leads sure y (time q g) (λ z. nat_lt (tables.greatest_settling q y) (tables.least_arrival z y))
        (later_rises below scenario schedule tables well enclosed q g y (tables.greatest_settling q y) goes at (enclosed.settling_high q y at)) in
        subst (λ l. top_of (λ z. lead_at leads z y) l ≤ (own + 1) - time q g)
        (sym (cond-false (y == g) (sure_after scenario tables (tables.greatest_arrival q g) q g) (sure_later scenario tables (tables.greatest_settling q y) y) e))
        there
  ]

  with_sure : (leads : List ℕ) (p : Pair) → IsPair scenario p → AreSure leads → AreSure (with_lead scenario tables leads p)
  with_sure leads p at sure m g goes =
      let tops : ℕ → ℕ = top_behind scenario tables leads p in
      let value : ℕ = next_lead scenario tables leads p in
      elim (set_cases leads (place p.message p.group) (place m g) value) [
        | inr e ↦ subst (λ l. l ≤ (own + 1) - time m g) (sym e) (sure m g goes)
        | inl e ↦
            let same = same_place p.message p.group m g (group_is_low scenario well p.message p.group at) (group_is_low scenario well m g goes) e.0 in
            let old = sure p.message p.group at in
            let new : fold max 0 (map tops (message_at scenario p.message).destinations) ≤ (own + 1) - time p.message p.group =
            greatest_most tops ((own + 1) - time p.message p.group) (message_at scenario p.message).destinations
            (λ y i. behind_sure leads sure p.message p.group y at (goes_from_in scenario p.message y i)) in
            let here : value ≤ (own + 1) - time p.message p.group = omega arith in
            subst (λ l. l ≤ (own + 1) - time m g) (sym e.1)
            (subst (λ a. value ≤ (own + 1) - time a g) same.0 (subst (λ b. value ≤ (own + 1) - time p.message b) same.1 here))
      ]

  all_sure : (leads : List ℕ) (ps : List Pair) → ((p : Pair) → IsIn p ps → IsPair scenario p) → AreSure leads
      → AreSure (fold (with_lead scenario tables) leads ps)
  all_sure leads [] h sure = sure
  all_sure leads (p ∷ ps) h sure =
      all_sure (with_lead scenario tables leads p) ps (λ q i. h q (inr i)) (with_sure leads p (h p (inl refl)) sure)

  pub leads_sure : AreSure (leads_of scenario tables n)
  unfolding leads_of
  leads_sure =
      all_sure (first_leads scenario n) (last_first scenario tables)
      (λ p i. elim (in_of_inserted tables p [] (pairs_of scenario) i) [ inl e ↦ absurd e | inr j ↦ goes_of_pair scenario p j ])
      first where
        zero_at : (k i z : ℕ) → get_or (replicate k z) i z ≡ z
        zero_at zero i z = refl
        zero_at (suc k) zero z = refl
        zero_at (suc k) (suc i) z = zero_at k i z

        first : AreSure (first_leads scenario n)
        first m g goes = elim (set_cases (replicate (length scenario.multicasts * MOST_GROUPS) 0) (place n scenario.target_group) (place m g) 1) [
          | inl e ↦
              let same = same_place n scenario.target_group m g (group_is_low scenario well n scenario.target_group goes_n) (group_is_low scenario well m g goes) e.0 in
              let times : own ≡ time m g = ap₂ time same.0 same.1 in
              omega (arith, e.1)
          | inr e ↦ omega (arith, e, zero_at (length scenario.multicasts * MOST_GROUPS) (place m g) 0)
        ]

  pub time_sure : (leads : List ℕ) → AreSure leads → sure_time scenario leads ≤ own
  unfolding sure_time
  time_sure leads sure =
      let each : (g : ℕ) → top_of (λ z. lead_at leads z g) (addressed_to scenario g) ≤ own + 1 = λ g.
      let here = top_within (λ z. time z g) (λ z. lead_at leads z g) (addressed_to scenario g) (own + 1) 0 (once-addressed scenario g)
      (λ a b i j e. one_time below.rise scenario schedule well g a b (goes_of_addressed scenario a g i) (goes_of_addressed scenario b g j) e)
      (λ z i. stamp_positive below.raise scenario schedule well z g (goes_of_addressed scenario z g i))
      (λ z i. sure z g (goes_of_addressed scenario z g i)) in
      omega arith in
      let all = greatest_most (λ g. top_of (λ z. lead_at leads z g) (addressed_to scenario g)) (own + 1) (range_with_len 0 (length scenario.groups)) (λ g i. each g) in
      omega arith

pub leads_hold : LawsBelow → SureLeadsHold
leads_hold below scenario schedule tables well enclosed n goes =
    let sure = leads_sure below scenario schedule tables well enclosed n goes in
    (λ q g to some. let here = sure q g to in omega arith, time_sure below scenario schedule tables well enclosed n goes (leads_of scenario tables n) sure)

pub arrivals_rise : LawsBelow → SureArrivalsRise
arrivals_rise below scenario schedule tables well enclosed q g tick goes soon z to after = after_rises below scenario schedule tables well enclosed q g tick goes soon z to after

pub sure_holds : LawsBelow → WhatIsSureHolds
sure_holds below scenario schedule tables well enclosed n goes_n =
    let leads : List ℕ = leads_of scenario tables n in
    let sure = leads_sure below scenario schedule tables well enclosed n goes_n in
    let time : ℕ → ℕ → ℕ = λ m g. (local_stamp scenario schedule m g).time in
    record {
      leads_hold = sure;
      after_holds = λ q g tick goes soon.
          top_sure below scenario schedule tables well enclosed n goes_n leads sure g (time q g)
          (λ z. is_earlier scenario.time tick q (tables.least_arrival z g) z)
          (after_rises below scenario schedule tables well enclosed q g tick goes soon);
      later_holds = λ q g y tick goes at soon.
          top_sure below scenario schedule tables well enclosed n goes_n leads sure y (time q g)
          (λ z. nat_lt tick (tables.least_arrival z y))
          (later_rises below scenario schedule tables well enclosed q g y tick goes at soon);
      time_holds = time_sure below scenario schedule tables well enclosed n goes_n leads sure;
    }
