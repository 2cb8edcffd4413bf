-- Windows that say that the target is delivered before a tick: a rival that is shown to be behind it is none that holds it back.
use Rattle.std.proofs.Common.{◌≡◌, ℕ, ◌-◌, ◌<◌, ◌≤◌, Bool, true, nat_le, nat_lt, inl, inr, ◌∷◌, subst, sym, ◌∙◌, arith}
use Rattle.std.specs.List.{list_all}
use Rattle.std.proofs.lemmas.Bool.{and_parts, cases_lt, false≢true, le-leb, ltb-true, or_cases}
use Rattle.convoy_scenario.specs.Scenario.{Scenario, GoesTo, message_at}
use Rattle.convoy_scenario.specs.WellFormed.{IsScenario}
use Rattle.convoy_packets.specs.Assignment.{Schedule, IsAssignment}
use Rattle.convoy_sim.specs.Times.{Tick, propose_arrive, settle}
use Rattle.convoy_sim.specs.Stamps.{is_less, local_stamp, final_stamp}
use Rattle.convoy_sim.specs.Delivery.{addressed_to, last_commit}
use Rattle.convoy_sim.specs.ProtocolLaws.{ahead_of, DeliveryLaw, EarlierArrivesBeforeCommit}
use Rattle.convoy_sim.proofs.Membership.{IsIn, greatest_most, in-filter}
use Rattle.convoy_sim.proofs.Addressed.{goes_from_in, in-addressed, in_of_ahead, in_of_goes}
use Rattle.convoy_intervals.specs.Bounds.{rivals}
use Rattle.convoy_sure.specs.Windows.{EnclosesAll, Windows, tables_by}
use Rattle.convoy_leads.specs.Closing.{is_behind_after, is_behind_late}
use Rattle.convoy_leads.specs.LeadLaws.{BehindIsNotAhead}
use Rattle.convoy_leads.proofs.LedLaw.{list_all_in}
use Rattle.convoy_causes.specs.CauseLaws.{DeliveredBefore}

module _ (behind : BehindIsNotAhead) (earlier : EarlierArrivesBeforeCommit) (scenario : Scenario) (schedule : Schedule) (windows : Windows)
    (well : IsScenario scenario) (given : IsAssignment scenario schedule) (enclosed : EnclosesAll scenario schedule (tables_by windows)) where
  abbrev target : ℕ
  target = scenario.target_message

  abbrev group : ℕ
  group = scenario.target_group

  -- what is committed at a tick or later is so by way of some group
  late_by : (n : ℕ) (tick : Tick) → GoesTo scenario n group → tick ≤ settle scenario schedule n group
      → ((k : ℕ) → GoesTo scenario n k → tick ≤ propose_arrive scenario schedule n group k → ⊥) → ⊥
  unfolding settle
  late_by n tick goes late none =
      let less : (k : ℕ) → GoesTo scenario n k → propose_arrive scenario schedule n group k < tick =
      λ k there. elim (cases_lt (propose_arrive scenario schedule n group k) tick) [ inl l ↦ l | inr l ↦ absurd (none k there l) ] in
      let here = less group goes in
      let most = greatest_most (propose_arrive scenario schedule n group) (tick - 1) (message_at scenario n).destinations (λ k i. let l = less k (goes_from_in scenario n k i) in omega arith) in
      omega arith

  -- the way of message n by group k keeps its commit back until that tick, and it is not behind there
  abbrev is_behind_by_way : Tick → ℕ → ℕ → Bool
  is_behind_by_way tick n k = is_behind_after scenario windows n k (tick - (tables_by windows).greatest_proposal n k group)

  -- what is ahead of the target is not behind it
  not_behind : (n : ℕ) (tick : Tick) → GoesTo scenario n group
      → is_less (local_stamp scenario schedule n group) (final_stamp scenario schedule target) ≡ true
      → tick ≤ settle scenario schedule n group → is_behind_late scenario windows tick n ≡ true → ⊥
  not_behind n tick goes ahead late out =
      let last : ℕ = (tables_by windows).times.greatest_settling n group in
      elim (or_cases (nat_lt last tick) (list_all (is_behind_by_way tick n) (message_at scenario n).destinations) out) [
        | inl e ↦
            let less : last < tick = ltb-true last tick e in
            let high = enclosed.times.settling_high n group goes in
            omega arith
        | inr e ↦
            late_by n tick goes late (λ k there end.
            let stamped = enclosed.proposals_high n k group there goes in
            let from : ℕ = tick - (tables_by windows).greatest_proposal n k group in
            let not_ahead = behind scenario schedule windows n k from well given enclosed goes there (omega arith)
            (list_all_in (is_behind_by_way tick n) k (message_at scenario n).destinations e (in_of_goes scenario n k there)) in
            false≢true (sym not_ahead ∙ ahead))
      ]

  module _ (tick : Tick) (committed : (tables_by windows).times.greatest_settling target group < tick)
      (closed : list_all (is_behind_late scenario windows tick) (rivals scenario (tables_by windows).times) ≡ true) where
    rival_of : (n : ℕ) → IsIn n (ahead_of scenario schedule target group) → IsIn n (rivals scenario (tables_by windows).times)
    rival_of n i =
        let r = in_of_ahead scenario schedule n target group i in
        let low = enclosed.times.arrival_low n group r.0 in
        let come = earlier scenario schedule well n target group r.0 well.addressed r.1 in
        let high = enclosed.times.settling_high target group well.addressed in
        let least : ℕ = (tables_by windows).times.least_arrival n group in
        let latest : ℕ = (tables_by windows).times.greatest_settling target group in
        in-filter (λ k. nat_le ((tables_by windows).times.least_arrival k group) latest) n (addressed_to scenario group) (in-addressed scenario n group r.0)
        (le-leb least latest (omega arith))

    each_soon : (n : ℕ) → IsIn n (target ∷ ahead_of scenario schedule target group) → settle scenario schedule n group ≤ tick - 1
    each_soon n (inl same) =
        subst (λ k. settle scenario schedule k group ≤ tick - 1) same (let high = enclosed.times.settling_high target group well.addressed in omega arith)
    each_soon n (inr i) = elim (cases_lt (settle scenario schedule n group) tick) [
      | inl l ↦ omega arith
      | inr late ↦
          let r = in_of_ahead scenario schedule n target group i in
          absurd (not_behind n tick r.0 r.1 late (list_all_in (is_behind_late scenario windows tick) n (rivals scenario (tables_by windows).times) closed (rival_of n i)))
    ]

    all_soon : last_commit scenario schedule group (target ∷ ahead_of scenario schedule target group) ≤ tick - 1
    all_soon = greatest_most (λ n. settle scenario schedule n group) (tick - 1) (target ∷ ahead_of scenario schedule target group) each_soon

pub delivered_before : BehindIsNotAhead → EarlierArrivesBeforeCommit → DeliveryLaw → DeliveredBefore
delivered_before behind earlier law scenario schedule windows tick well given enclosed before =
    let last : ℕ = (tables_by windows).times.greatest_settling scenario.target_message scenario.target_group in
    let parts = and_parts (nat_lt last tick) (list_all (is_behind_late scenario windows tick) (rivals scenario (tables_by windows).times)) before in
    let committed : last < tick = ltb-true last tick parts.0 in
    let most = all_soon behind earlier scenario schedule windows well given enclosed tick committed parts.1 in
    let delivered = law scenario schedule well scenario.target_message scenario.target_group well.addressed in
    omega arith
