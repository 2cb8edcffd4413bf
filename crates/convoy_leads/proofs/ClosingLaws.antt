-- Boxes that leads close: a rival that is shown to be behind is none that keeps the target back.
use Rattle.std.proofs.Common.{◌≡◌, ℕ, ◌+◌, ◌-◌, ◌<◌, ◌≤◌, Bool, true, false, ◌||◌, nat_lt, nat_le, inl, inr, List, [], ◌∷◌, map, refl, subst, arith}
use Rattle.std.specs.List.{list_all}
use Rattle.std.proofs.lemmas.Bool.{cases_lt, false_from_ne_true, and_parts, and_from, or_left, lt-ltb, or_cases, ltb-true, le-leb, leb-true}
use Rattle.convoy_scenario.specs.Scenario.{Scenario, message_at, GoesTo}
use Rattle.convoy_scenario.specs.WellFormed.{IsScenario}
use Rattle.convoy_packets.specs.declared.packet.Packet.TheVariants.{Propose}
use Rattle.convoy_packets.specs.Assignment.{Schedule, IsAssignment, delay_of}
use Rattle.convoy_sim.specs.Times.{greatest, arrive, settle, propose_arrive}
use Rattle.convoy_sim.specs.Stamps.{is_less, local_stamp, final_stamp}
use Rattle.convoy_sim.specs.Delivery.{addressed_to, latency_at, latency_of}
use Rattle.convoy_sim.specs.ProtocolLaws.{ahead_of}
use Rattle.convoy_sim.proofs.Membership.{IsIn, in-filter, in_of_filter, in_greatest, greatest_most}
use Rattle.convoy_sim.proofs.Addressed.{in_of_goes, goes_from_in, in-addressed, goes_of_addressed, in_of_ahead}
use Rattle.convoy_intervals.specs.Bounds.{Tables, rivals, tables_of, plain_bound}
use Rattle.convoy_starts.specs.Below.{LawsBelow}
use Rattle.convoy_sure.specs.Windows.{LeadTables, EnclosesAll, Windows, tables_by, windows_of, with_arrival}
use Rattle.convoy_sure.specs.SureLaws.{WindowsAreTables, WindowsEncloseMembers}
use Rattle.convoy_leads.specs.Leads.{is_led}
use Rattle.convoy_leads.specs.Closing.{is_behind, is_behind_by, is_behind_target, is_behind_after, is_behind_late, closes_by_leads}
use Rattle.convoy_leads.specs.LeadLaws.{BehindIsNotAhead, ClosedHoldsOverWindows, LeadsHold, ClosesAtPlain}
use Rattle.convoy_leads.proofs.LedLaw.{list_all_in, led_is_behind}

-- one of some numbers reaches what the greatest of them does
reached : (f : ℕ → ℕ) (b : ℕ) (x : ℕ) (xs : List ℕ) → IsIn x xs → b ≤ greatest (map f xs) → ((y : ℕ) → IsIn y xs → b ≤ f y → ⊥) → ⊥
reached f b x xs i l none =
    let less : (y : ℕ) → IsIn y xs → f y < b = λ y j. elim (cases_lt (f y) b) [
      | inl h ↦ h
      | inr h ↦ absurd (none y j (omega arith))
    ] in
    let here : f x < b = less x i in
    let most = greatest_most f (b - 1) xs (λ y j. let h : f y < b = less y j in omega arith) in
    omega arith

-- a message is committed at a group no earlier than a tick by way of one of its destinations
settled_by : (scenario : Scenario) (schedule : Schedule) (m g tick : ℕ) → GoesTo scenario m g → tick ≤ settle scenario schedule m g
    → ((k : ℕ) → GoesTo scenario m k → tick ≤ arrive scenario schedule m k + delay_of scenario schedule (Propose m k g) → ⊥) → ⊥
unfolding settle
settled_by scenario schedule m g tick goes late none =
    reached (propose_arrive scenario schedule m g) tick g (message_at scenario m).destinations (in_of_goes scenario m g goes) late
    (λ k i way. none k (goes_from_in scenario m k i) way)

module _ (below : LawsBelow) (scenario : Scenario) (schedule : Schedule) (well : IsScenario scenario) (assigned : IsAssignment scenario schedule) (n : ℕ) (to : GoesTo scenario n scenario.target_group)
    (ahead : is_less (local_stamp scenario schedule n scenario.target_group) (final_stamp scenario schedule scenario.target_message) ≡ true) where
  arrives_in_time : arrive scenario schedule n scenario.target_group ≤ settle scenario schedule scenario.target_message scenario.target_group
  arrives_in_time = below.earlier scenario schedule well n scenario.target_message scenario.target_group to well.addressed ahead

  not_behind : (tables : LeadTables) → EnclosesAll scenario schedule tables → is_behind scenario tables n ≡ true → ⊥
  not_behind tables enclosed out =
      let t : ℕ = scenario.target_message in
      let g : ℕ = scenario.target_group in
      elim (or_cases (nat_lt (tables.times.greatest_settling t g) (tables.times.least_arrival n g)) (is_led scenario tables false n || is_led scenario tables true n) out) [
        | inl e ↦
            let after : tables.times.greatest_settling t g < tables.times.least_arrival n g = ltb-true (tables.times.greatest_settling t g) (tables.times.least_arrival n g) e in
            let low : tables.times.least_arrival n g ≤ arrive scenario schedule n g = enclosed.times.arrival_low n g to in
            let come = arrives_in_time in
            let last : settle scenario schedule t g ≤ tables.times.greatest_settling t g = enclosed.times.settling_high t g well.addressed in
            omega arith
        | inr o ↦ elim (or_cases (is_led scenario tables false n) (is_led scenario tables true n) o) [
          | inl e ↦ led_is_behind below scenario schedule tables well assigned enclosed false n to ahead e
          | inr e ↦ led_is_behind below scenario schedule tables well assigned enclosed true n to ahead e
        ]
      ]

  not_behind_by : (windows : Windows) → EnclosesAll scenario schedule (tables_by windows) → (m k tick : ℕ) → GoesTo scenario m k
      → tick ≤ arrive scenario schedule m k → is_behind_by scenario windows n m k tick ≡ true → ⊥
  not_behind_by windows enclosed m k tick goes late out =
      let last : ℕ = (tables_by windows).times.greatest_arrival m k in
      let cut : LeadTables = tables_by (with_arrival scenario windows m k tick) in
      elim (or_cases (nat_lt last tick) (is_behind scenario cut n) out) [
        | inl e ↦
            let less : last < tick = ltb-true last tick e in
            let high : arrive scenario schedule m k ≤ last = enclosed.times.arrival_high m k goes in
            omega arith
        | inr e ↦ not_behind cut (below.cuts scenario schedule windows m k tick well enclosed goes late) e
      ]

  not_behind_after : (windows : Windows) → EnclosesAll scenario schedule (tables_by windows) → (k tick : ℕ) → GoesTo scenario n k
      → tick ≤ arrive scenario schedule n k → is_behind_after scenario windows n k tick ≡ true → ⊥
  not_behind_after windows enclosed k tick goes late out =
      let t : ℕ = scenario.target_message in
      let g : ℕ = scenario.target_group in
      let cut : Windows = with_arrival scenario windows n k tick in
      let all : EnclosesAll scenario schedule (tables_by cut) = below.cuts scenario schedule windows n k tick well enclosed goes late in
      let low : ℕ = (tables_by cut).times.least_arrival n g in
      elim (or_cases (is_behind_by scenario windows n n k tick) (list_all (is_behind_target scenario cut n) (message_at scenario t).destinations) out) [
        | inl e ↦ not_behind_by windows enclosed n k tick goes late e
        | inr e ↦
            let at : low ≤ arrive scenario schedule n g = all.times.arrival_low n g to in
            let come = arrives_in_time in
            settled_by scenario schedule t g low well.addressed (omega arith) (λ f goes_f way.
            let most = all.proposals_high t f g goes_f well.addressed in
            not_behind_by cut all t f (low - (tables_by cut).greatest_proposal t f g) goes_f (omega arith)
            (list_all_in (is_behind_target scenario cut n) f (message_at scenario t).destinations e (in_of_goes scenario t f goes_f)))
      ]

  not_behind_late : (windows : Windows) → EnclosesAll scenario schedule (tables_by windows) → (tick : ℕ)
      → tick ≤ settle scenario schedule n scenario.target_group → is_behind_late scenario windows tick n ≡ true → ⊥
  not_behind_late windows enclosed tick late out =
      let g : ℕ = scenario.target_group in
      let last : ℕ = (tables_by windows).times.greatest_settling n g in
      let test : ℕ → Bool = λ k. is_behind_after scenario windows n k (tick - (tables_by windows).greatest_proposal n k g) in
      elim (or_cases (nat_lt last tick) (list_all test (message_at scenario n).destinations) out) [
        | inl e ↦
            let less : last < tick = ltb-true last tick e in
            let high : settle scenario schedule n g ≤ last = enclosed.times.settling_high n g to in
            omega arith
        | inr e ↦
            settled_by scenario schedule n g tick to late (λ k goes way.
            let most = enclosed.proposals_high n k g goes to in
            not_behind_after windows enclosed k (tick - (tables_by windows).greatest_proposal n k g) goes (omega arith)
            (list_all_in test k (message_at scenario n).destinations e (in_of_goes scenario n k goes)))
      ]

pub closed_holds : LawsBelow → ClosedHoldsOverWindows
unfolding latency_of latency_at
closed_holds below scenario schedule windows latency well assigned enclosed closed =
    let t : ℕ = scenario.target_message in
    let g : ℕ = scenario.target_group in
    let at : ℕ = (message_at scenario t).at in
    let tick : ℕ = at + latency + 1 in
    let times : Tables = (tables_by windows).times in
    let parts = and_parts (nat_lt (times.greatest_settling t g) tick) (list_all (is_behind_late scenario windows tick) (rivals scenario times)) closed in
    let less : times.greatest_settling t g < tick = ltb-true (times.greatest_settling t g) tick parts.0 in
    let last : settle scenario schedule t g ≤ times.greatest_settling t g = enclosed.times.settling_high t g well.addressed in
    let each : (n : ℕ) → IsIn n (t ∷ ahead_of scenario schedule t g) → settle scenario schedule n g ≤ at + latency = λ n i. elim i [
      | inl e ↦ subst (λ k. settle scenario schedule k g ≤ at + latency) e (omega arith)
      | inr j ↦
          let r = in_of_ahead scenario schedule n t g j in
          let low : times.least_arrival n g ≤ arrive scenario schedule n g = enclosed.times.arrival_low n g r.0 in
          let come : arrive scenario schedule n g ≤ settle scenario schedule t g = below.earlier scenario schedule well n t g r.0 well.addressed r.1 in
          let rival : IsIn n (rivals scenario times) = in-filter (λ k. nat_le (times.least_arrival k g) (times.greatest_settling t g)) n (addressed_to scenario g)
          (in-addressed scenario n g r.0) (le-leb (times.least_arrival n g) (times.greatest_settling t g) (omega arith)) in
          elim (cases_lt (settle scenario schedule n g) tick) [
            | inl l ↦ omega arith
            | inr l ↦ absurd (not_behind_late below scenario schedule well assigned n r.0 r.1 windows enclosed tick (omega arith)
                (list_all_in (is_behind_late scenario windows tick) n (rivals scenario times) parts.1 rival))
          ]
    ] in
    let all = greatest_most (λ n. settle scenario schedule n g) (at + latency) (t ∷ ahead_of scenario schedule t g) each in
    omega (arith, below.delivery scenario schedule well t g well.addressed)

pub behind_not_ahead : LawsBelow → BehindIsNotAhead
behind_not_ahead below scenario schedule windows n k tick well assigned enclosed to goes late behind =
    false_from_ne_true (is_less (local_stamp scenario schedule n scenario.target_group) (final_stamp scenario schedule scenario.target_message))
    (λ ahead. not_behind_after below scenario schedule well assigned n to ahead windows enclosed k tick goes late behind)

pub leads_hold : ClosedHoldsOverWindows → WindowsEncloseMembers → LeadsHold
unfolding closes_by_leads
leads_hold holds enclosed scenario ranges schedule latency well assigned member closed =
    holds scenario schedule (windows_of scenario ranges) latency well assigned (enclosed scenario ranges schedule well member) closed

-- ---- the plain bound
all_from : {X : Type 0} (p : X → Bool) (xs : List X) → ((x : X) → IsIn x xs → p x ≡ true) → list_all p xs ≡ true
all_from p [] each = refl
all_from p (x ∷ xs) each = and_from (p x) (list_all p xs) (each x (inl refl)) (all_from p xs (λ y i. each y (inr i)))

pub closes_at_plain : WindowsAreTables → ClosesAtPlain
unfolding closes_by_leads plain_bound
closes_at_plain same scenario ranges well =
    let t : ℕ = scenario.target_message in
    let g : ℕ = scenario.target_group in
    let at : ℕ = (message_at scenario t).at in
    let windows : Windows = windows_of scenario ranges in
    let times : Tables = (tables_by windows).times in
    let box : Tables = tables_of scenario ranges in
    let high : ℕ → ℕ = λ n. box.greatest_settling n g in
    let all : List ℕ = t ∷ rivals scenario box in
    let tick : ℕ = at + (greatest (map high all) - at) + 1 in
    let entry : (n : ℕ) → GoesTo scenario n g → times.greatest_settling n g ≡ high n = λ n goes. (same scenario ranges well n g goes).greatest_settling in
    let less : (n : ℕ) → GoesTo scenario n g → IsIn n all → nat_lt (times.greatest_settling n g) tick ≡ true = λ n goes i.
    let most : high n ≤ greatest (map high all) = in_greatest high n all i in
    lt-ltb (times.greatest_settling n g) tick (omega (arith, entry n goes)) in
    and_from (nat_lt (times.greatest_settling t g) tick) (list_all (is_behind_late scenario windows tick) (rivals scenario times))
    (less t well.addressed (inl refl))
    (all_from (is_behind_late scenario windows tick) (rivals scenario times) (λ n i.
    let test : ℕ → Bool = λ k. nat_le (times.least_arrival k g) (times.greatest_settling t g) in
    let r = in_of_filter test n (addressed_to scenario g) i in
    let goes : GoesTo scenario n g = goes_of_addressed scenario n g r.0 in
    let soon : box.least_arrival n g ≤ box.greatest_settling t g =
    subst (λ a. a ≤ box.greatest_settling t g) (same scenario ranges well n g goes).least_arrival
    (subst (λ b. times.least_arrival n g ≤ b) (entry t well.addressed) (leb-true (times.least_arrival n g) (times.greatest_settling t g) r.1)) in
    let rival : IsIn n (rivals scenario box) = in-filter (λ k. nat_le (box.least_arrival k g) (box.greatest_settling t g)) n (addressed_to scenario g) r.0
    (le-leb (box.least_arrival n g) (box.greatest_settling t g) soon) in
    or_left (nat_lt (times.greatest_settling n g) tick) _ (less n goes (inr rival))))
