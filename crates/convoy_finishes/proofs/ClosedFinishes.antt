-- Windows that are closed for a latency: a rival that is shown to be behind is none whose finish keeps the target back.
use Rattle.std.proofs.Common.{◌≡◌, ℕ, ◌+◌, ◌-◌, ◌<◌, ◌≤◌, max, Bool, true, nat_le, nat_lt, inl, inr, List, [], ◌∷◌, map, refl, subst, sym, ◌∙◌, arith}
use Rattle.std.specs.List.{list_all}
use Rattle.std.proofs.lemmas.Bool.{and_from, and_parts, cases_lt, false≢true, le-leb, lt-ltb, ltb-true, or_cases, or_left}
use Rattle.convoy_scenario.specs.Scenario.{Scenario, GoesTo, message_at}
use Rattle.convoy_scenario.specs.WellFormed.{IsScenario}
use Rattle.convoy_scenario.specs.Widened.{widened}
use Rattle.convoy_packets.specs.declared.packet.Packet.TheVariants.{Propose}
use Rattle.convoy_packets.specs.Assignment.{Schedule, IsAssignment, delay_of}
use Rattle.convoy_sim.specs.Times.{Tick, greatest, arrive, propose_arrive, settle}
use Rattle.convoy_sim.specs.Stamps.{is_less, local_stamp, final_stamp}
use Rattle.convoy_sim.specs.Delivery.{addressed_to}
use Rattle.convoy_sim.specs.ProtocolLaws.{ahead_of, EarlierArrivesBeforeCommit, IssuedFromItsTick}
use Rattle.convoy_sim.proofs.Membership.{IsIn, greatest_most, in-filter, in_greatest}
use Rattle.convoy_sim.proofs.Addressed.{goes_from_in, in-addressed, in_of_ahead, in_of_goes}
use Rattle.convoy_intervals.specs.Bounds.{rivals}
use Rattle.convoy_sure.specs.Windows.{EnclosesAll, Windows, tables_by}
use Rattle.convoy_leads.specs.LeadLaws.{BehindIsNotAhead}
use Rattle.convoy_leads.proofs.LedLaw.{list_all_in}
use Rattle.convoy_finishes.specs.Finishes.{finish_by, finish_latency, way_at}
use Rattle.convoy_finishes.specs.FinishClosing.{all_windows, closes_finishing, closes_finishing_over, greatest_finish, is_behind_by_way, is_behind_finishing, longest_way, plain_finish_bound, plain_finish_over}
use Rattle.convoy_finishes.specs.FinishLaws.{ClosedFinishingOverWindows, ClosesAtPlainFinish}

module _ (behind : BehindIsNotAhead) (earlier : EarlierArrivesBeforeCommit) (scenario : Scenario) (schedule : Schedule) (windows : Windows) (ways : List ℕ)
    (well : IsScenario scenario) (given : IsAssignment scenario schedule) (enclosed : EnclosesAll scenario schedule (tables_by windows)) where
  abbrev target : ℕ
  target = scenario.target_message

  abbrev group : ℕ
  group = scenario.target_group

  abbrev last : ℕ → Tick
  last = finish_by scenario schedule ways

  -- by way of which group the finish of message n is last
  abbrev ends : ℕ → ℕ → Tick
  ends n k = arrive scenario schedule n k + max (way_at ways n k) (delay_of scenario schedule (Propose n k group))

  -- a message is finished as its ways end
  last_by_ends : (n most : ℕ) → ((k : ℕ) → GoesTo scenario n k → ends n k ≤ most) → last n ≤ most
  unfolding settle
  last_by_ends n most each =
      let groups = (message_at scenario n).destinations in
      let settled = greatest_most (propose_arrive scenario schedule n group) most groups (λ k i. let end = each k (goes_from_in scenario n k i) in omega arith) in
      let answered = greatest_most (λ k. arrive scenario schedule n k + way_at ways n k) most groups (λ k i. let end = each k (goes_from_in scenario n k i) in omega arith) in
      omega arith

  last_high : (n : ℕ) → GoesTo scenario n group → last n ≤ greatest_finish scenario windows ways n
  last_high n goes =
      last_by_ends n (greatest_finish scenario windows ways n) (λ k there.
      let end : ℕ → ℕ = λ h. (tables_by windows).times.greatest_arrival n h + longest_way scenario windows ways n h in
      let most = in_greatest end k (message_at scenario n).destinations (in_of_goes scenario n k there) in
      let come = enclosed.times.arrival_high n k there in
      let stamped = enclosed.proposals_high n k group there goes in
      omega arith)

  -- what may be finished at a tick or later is so by way of some group
  late_by : (n : ℕ) (tick : Tick) → GoesTo scenario n group → tick ≤ last n → ((k : ℕ) → GoesTo scenario n k → tick ≤ ends n k → ⊥) → ⊥
  late_by n tick goes late none =
      let less : (k : ℕ) → GoesTo scenario n k → ends n k < tick = λ k there. elim (cases_lt (ends n k) tick) [ inl l ↦ l | inr l ↦ absurd (none k there l) ] in
      let here = less group goes in
      let most = last_by_ends n (tick - 1) (λ k there. let l = less k there in omega arith) in
      omega arith

  -- what is ahead of the target is not behind it
  not_behind : (n : ℕ) (tick : Tick) → GoesTo scenario n group
      → is_less (local_stamp scenario schedule n group) (final_stamp scenario schedule target) ≡ true
      → tick ≤ last n → is_behind_finishing scenario windows ways tick n ≡ true → ⊥
  not_behind n tick goes ahead late out =
      let greatest_last : ℕ = greatest_finish scenario windows ways n in
      let test : ℕ → Bool = is_behind_by_way scenario windows ways tick n in
      elim (or_cases (nat_lt greatest_last tick) (list_all test (message_at scenario n).destinations) out) [
        | inl e ↦
            let less : greatest_last < tick = ltb-true greatest_last tick e in
            let high = last_high n goes in
            omega arith
        | inr e ↦
            late_by n tick goes late (λ k there end.
            let stamped = enclosed.proposals_high n k group there goes in
            let from : ℕ = tick - longest_way scenario windows ways n k in
            let not_ahead = behind scenario schedule windows n k from well given enclosed goes there (omega arith)
            (list_all_in test k (message_at scenario n).destinations e (in_of_goes scenario n k there)) in
            false≢true (sym not_ahead ∙ ahead))
      ]

  module _ (tick : Tick) (soon : greatest_finish scenario windows ways target < tick)
      (closed : list_all (is_behind_finishing scenario windows ways tick) (rivals scenario (tables_by windows).times) ≡ true) where
    rival_of : (n : ℕ) → IsIn n (ahead_of scenario schedule target group) → IsIn n (rivals scenario (tables_by windows).times)
    rival_of n i =
        let r = in_of_ahead scenario schedule n target group i in
        let low = enclosed.times.arrival_low n group r.0 in
        let come = earlier scenario schedule well n target group r.0 well.addressed r.1 in
        let high = enclosed.times.settling_high target group well.addressed in
        let least : ℕ = (tables_by windows).times.least_arrival n group in
        let latest : ℕ = (tables_by windows).times.greatest_settling target group in
        in-filter (λ k. nat_le ((tables_by windows).times.least_arrival k group) latest) n (addressed_to scenario group) (in-addressed scenario n group r.0)
        (le-leb least latest (omega arith))

    each_soon : (n : ℕ) → IsIn n (target ∷ ahead_of scenario schedule target group) → last n ≤ tick - 1
    each_soon n (inl same) = subst (λ k. last k ≤ tick - 1) same (let high = last_high target well.addressed in omega arith)
    each_soon n (inr i) = elim (cases_lt (last n) tick) [
      | inl l ↦ omega arith
      | inr late ↦
          let r = in_of_ahead scenario schedule n target group i in
          absurd (not_behind n tick r.0 r.1 late (list_all_in (is_behind_finishing scenario windows ways tick) n (rivals scenario (tables_by windows).times) closed (rival_of n i)))
    ]

    all_soon : greatest (map last (target ∷ ahead_of scenario schedule target group)) ≤ tick - 1
    all_soon = greatest_most last (tick - 1) (target ∷ ahead_of scenario schedule target group) each_soon

pub closed_over : BehindIsNotAhead → EarlierArrivesBeforeCommit → IssuedFromItsTick → ClosedFinishingOverWindows
unfolding finish_latency
closed_over behind earlier issued scenario schedule windows ways latency well given enclosed closed =
    let at : ℕ = (message_at scenario scenario.target_message).at in
    let tick : ℕ = at + latency + 1 in
    let first : ℕ = greatest_finish scenario windows ways scenario.target_message in
    let parts = and_parts (nat_lt first tick) (list_all (is_behind_finishing scenario windows ways tick) (rivals scenario (tables_by windows).times)) closed in
    let soon : first < tick = ltb-true first tick parts.0 in
    let most = all_soon behind earlier scenario schedule windows ways well given enclosed tick soon parts.1 in
    let start = issued scenario schedule scenario.target_message in
    omega arith

-- ---- the plain bound
all_from : {X : Type 0} (p : X → Bool) (xs : List X) → ((x : X) → IsIn x xs → p x ≡ true) → list_all p xs ≡ true
all_from p [] each = refl
all_from p (x ∷ xs) each = and_from (p x) (list_all p xs) (each x (inl refl)) (all_from p xs (λ y i. each y (inr i)))

module _ (scenario : Scenario) (windows : Windows) (ways : List ℕ) where
  abbrev first : ℕ → Tick
  first = greatest_finish scenario windows ways

  abbrev all : List ℕ
  all = scenario.target_message ∷ rivals scenario (tables_by windows).times

  abbrev past : Tick
  past = (message_at scenario scenario.target_message).at + plain_finish_over scenario windows ways + 1

  before_past : (n : ℕ) → IsIn n all → nat_lt (first n) past ≡ true
  before_past n i = let most = in_greatest first n all i in lt-ltb (first n) past (omega arith)

  pub closes_at_plain_over : closes_finishing_over scenario windows ways (plain_finish_over scenario windows ways) ≡ true
  closes_at_plain_over =
      and_from (nat_lt (first scenario.target_message) past) (list_all (is_behind_finishing scenario windows ways past) (rivals scenario (tables_by windows).times))
      (before_past scenario.target_message (inl refl))
      (all_from (is_behind_finishing scenario windows ways past) (rivals scenario (tables_by windows).times)
      (λ n i. or_left (nat_lt (first n) past) (list_all (is_behind_by_way scenario windows ways past n) (message_at scenario n).destinations) (before_past n (inr i))))

pub closes_at_plain : ClosesAtPlainFinish
unfolding closes_finishing plain_finish_bound
closes_at_plain scenario ways = closes_at_plain_over (widened scenario) (all_windows scenario) ways
