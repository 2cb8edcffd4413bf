-- The last tick at which the target may be delivered under a schedule: that of the last finish of it and of all that are ahead of it.
use Rattle.std.proofs.Common.{◌≡◌, ℕ, ◌+◌, ◌-◌, ◌≤◌, true, ◌&&◌, not, nat_le, nat_lt, inl, inr, List, ◌∷◌, map, refl, sym, ap, subst, ◌∙◌, arith}
use Rattle.std.proofs.lemmas.Bool.{and_from, and_parts, cases_lt, false_from_ne_true, false≢true, le-leb, lt-ltb, ltb-true, not_from_false}
use Rattle.convoy_scenario.specs.Scenario.{Scenario}
use Rattle.convoy_scenario.specs.WellFormed.{IsScenario}
use Rattle.convoy_packets.specs.Assignment.{Schedule, IsAssignment}
use Rattle.convoy_sim.specs.Times.{Tick, greatest, issue, arrive, settle}
use Rattle.convoy_sim.specs.Stamps.{is_less, local_stamp, final_stamp}
use Rattle.convoy_sim.specs.Delivery.{addressed_to}
use Rattle.convoy_sim.specs.ProtocolLaws.{ahead_of, ArrivesAfterIssue, ArrivesBeforeCommit, EarlierArrivesBeforeCommit}
use Rattle.convoy_sim.proofs.Membership.{IsIn, greatest_most, in-filter, in_greatest, in_of_list_any, list_any_in}
use Rattle.convoy_sim.proofs.Addressed.{goes_of_addressed, in-addressed, in_of_ahead}
use Rattle.convoy_origin.specs.Widened.{HasTarget}
use Rattle.convoy_finishes.specs.Finishes.{IsDeliveredOnce, IsFinishing, IsReachedUnder, IsUpperOfFinishes, IsUpperUnder, finish_by, finish_latency, is_free_at, is_unfinished}
use Rattle.convoy_finishes.specs.FinishLaws.{LatestFinishes, MetUpperIsGreatest, UpperOfFinishLatencies}

module _ (scenario : Scenario) (schedule : Schedule) (ways : List ℕ) where
  abbrev target : ℕ
  target = scenario.target_message

  abbrev group : ℕ
  group = scenario.target_group

  abbrev last : ℕ → Tick
  last = finish_by scenario schedule ways

  -- the target, and what is ahead of it
  abbrev awaited : List ℕ
  awaited = target ∷ ahead_of scenario schedule target group

  abbrev end : Tick
  end = greatest (map last awaited)

  -- ---- none is later
  module _ (goes : HasTarget scenario) (finished : ℕ → Tick) (is : IsFinishing scenario schedule ways finished) where
    target_by_end : finished target ≤ end
    target_by_end =
        let high = is.last target goes in
        let most = in_greatest last target awaited (inl refl) in
        omega arith

    free_at_end : is_free_at scenario schedule finished end ≡ true
    free_at_end = not_from_false _ (false_from_ne_true _ (λ any.
        let r = in_of_list_any (is_unfinished scenario schedule finished end) (addressed_to scenario group) any in
        let less = is_less (local_stamp scenario schedule r.0 group) (final_stamp scenario schedule target) in
        let held = and_parts (nat_le (arrive scenario schedule r.0 group) end && less) (nat_lt end (finished r.0)) r.2 in
        let stamped = and_parts (nat_le (arrive scenario schedule r.0 group) end) less held.0 in
        let ahead = in-filter (λ n. is_less (local_stamp scenario schedule n group) (final_stamp scenario schedule target)) r.0 (addressed_to scenario group) r.1 stamped.1 in
        let most = in_greatest last r.0 awaited (inr ahead) in
        let high = is.last r.0 (goes_of_addressed scenario r.0 group r.1) in
        let waits = ltb-true end (finished r.0) held.1 in
        omega arith))

    no_later : (tick : Tick) → IsDeliveredOnce scenario schedule finished tick → tick ≤ end
    no_later tick once = once.least end target_by_end free_at_end

  pub upper_under : HasTarget scenario → IsUpperUnder scenario schedule ways (finish_latency scenario ways schedule)
  unfolding finish_latency
  upper_under goes finished tick is once =
      let most = no_later goes finished is tick once in
      omega arith

  -- ---- the last one is reached
  module _ (earlier : EarlierArrivesBeforeCommit) (arrivals : ArrivesBeforeCommit) (issued : ArrivesAfterIssue) (well : IsScenario scenario) where
    latest : IsFinishing scenario schedule ways last
    latest = record { committed = λ n goes. omega arith; last = λ n goes. omega arith }

    -- what is ahead has arrived once the target is finished
    not_sooner : (sooner : Tick) → last target ≤ sooner → is_free_at scenario schedule last sooner ≡ true → (n : ℕ) → IsIn n awaited → last n ≤ sooner
    not_sooner sooner finish free n (inl same) = subst (λ k. last k ≤ sooner) same finish
    not_sooner sooner finish free n (inr i) = elim (cases_lt sooner (last n)) [
      | inr done ↦ done
      | inl waits ↦
          let r = in_of_ahead scenario schedule n target group i in
          let come : arrive scenario schedule n group ≤ settle scenario schedule target group = earlier scenario schedule well n target group r.0 well.addressed r.1 in
          let soon : arrive scenario schedule n group ≤ sooner = omega arith in
          let less = is_less (local_stamp scenario schedule n group) (final_stamp scenario schedule target) in
          let held : is_unfinished scenario schedule last sooner n ≡ true =
          and_from (nat_le (arrive scenario schedule n group) sooner && less) (nat_lt sooner (last n))
          (and_from (nat_le (arrive scenario schedule n group) sooner) less (le-leb (arrive scenario schedule n group) sooner soon) r.1)
          (lt-ltb sooner (last n) waits) in
          let any = list_any_in (is_unfinished scenario schedule last sooner) n (addressed_to scenario group) (in-addressed scenario n group r.0) held in
          absurd (false≢true (sym (ap not any) ∙ free))
    ]

    once : IsDeliveredOnce scenario schedule last end
    once = record {
      finish = target_by_end well.addressed last latest;
      free = free_at_end well.addressed last latest;
      least = λ sooner finish free. greatest_most last sooner awaited (not_sooner sooner finish free);
    }

    issue_by_end : issue scenario schedule target ≤ end
    issue_by_end =
        let first = issued scenario schedule target group in
        let come = arrivals scenario schedule target group group well.addressed in
        let most = in_greatest last target awaited (inl refl) in
        omega arith

    reached_under : IsReachedUnder scenario schedule ways (finish_latency scenario ways schedule)
    unfolding finish_latency
    reached_under =
        let start = issue scenario schedule target in
        let low = issue_by_end in
        let same : end ≡ start + (end - start) = omega arith in
        (last, latest, subst (IsDeliveredOnce scenario schedule last) same once)

pub latest_finishes : EarlierArrivesBeforeCommit → ArrivesBeforeCommit → ArrivesAfterIssue → LatestFinishes
latest_finishes earlier arrivals issued scenario schedule ways well =
    (reached_under scenario schedule ways earlier arrivals issued well, upper_under scenario schedule ways well.addressed)

-- a number that no finish latency exceeds
pub upper_of_latencies : (scenario : Scenario) (ways : List ℕ) (latency : ℕ) → HasTarget scenario
    → ((schedule : Schedule) → IsAssignment scenario schedule → finish_latency scenario ways schedule ≤ latency)
    → IsUpperOfFinishes scenario ways latency
upper_of_latencies scenario ways latency goes most schedule given finished tick is once =
    let high = most schedule given in
    let last = upper_under scenario schedule ways goes finished tick is once in
    omega arith

pub latencies_of_upper : LatestFinishes → (scenario : Scenario) (ways : List ℕ) (latency : ℕ) → IsScenario scenario
    → IsUpperOfFinishes scenario ways latency
    → (schedule : Schedule) → IsAssignment scenario schedule → finish_latency scenario ways schedule ≤ latency
latencies_of_upper latest scenario ways latency well upper schedule given =
    let r = (latest scenario schedule ways well).0 in
    let most = upper schedule given r.0 (issue scenario schedule scenario.target_message + finish_latency scenario ways schedule) r.1 r.2 in
    omega arith

pub upper_decided : LatestFinishes → UpperOfFinishLatencies
upper_decided latest scenario ways latency well =
    (latencies_of_upper latest scenario ways latency well, upper_of_latencies scenario ways latency well.addressed)

pub met_greatest : LatestFinishes → MetUpperIsGreatest
met_greatest latest scenario schedule ways latency well given is upper = record {
  reached = (schedule, given, subst (IsReachedUnder scenario schedule ways) is (latest scenario schedule ways well).0);
  upper = upper;
}
