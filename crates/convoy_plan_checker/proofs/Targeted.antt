-- The targets of a scenario of a plan may be targets of it.
use Rattle.std.proofs.Common.{◌≡◌, ℕ, ◌+◌, ◌<◌, ◌==◌, All, true, ◌&&◌, List, [], ◌∷◌, length, get_or, Option, inl, inr, subst, eqb-true, leb, leb-true, arith}
use Rattle.std.specs.List.{list_all}
use Rattle.std.proofs.lemmas.Bool.{and_parts, cases_Bool, or_cases}
use Rattle.std.proofs.lemmas.List.Elements.{Contains-get_or}
use Rattle.convoy_draft.specs.declared.limits.TheConstants.{GREATEST_AT}
use Rattle.convoy_scenario.specs.Room.{HasRoom, has_room, is_target_or_has_room}
use Rattle.convoy_scenario.specs.Scenario.{Scenario, message_at, message_numbers}
use Rattle.convoy_scenario.specs.Targets.{may_be_target, with_target}
use Rattle.convoy_scenario.specs.Widened.{target_wait}
use Rattle.convoy_scenario.specs.WellFormed.{IsScenario}
use Rattle.convoy_sim.proofs.Addressed.{goes_from_in}
use Rattle.convoy_sim.proofs.Membership.{IsIn, in-range, in_of_contains, in_of_filter, in_of_flat_map, in_of_range}
use Rattle.convoy_plans.specs.Plans.{Plan}
use Rattle.convoy_commands.specs.Verdicts.{deadline_at}
use Rattle.convoy_best_order.specs.declared.target.Target.{Target}
use Rattle.convoy_best_order.specs.declared.wanted.Wanted.{Wanted}
use Rattle.convoy_best_order.specs.Targets.{MayBeTarget, are_judged, counts, is_wanted, many_targets, or_asked, target_at, target_with, targets_at, targets_of}
use Rattle.convoy_best_order.proofs.Counting.{some_count}
use Rattle.convoy_best_plan.specs.BestPlans.{targets_by}
use Rattle.convoy_plan_checker.proofs.Orders.{each_passes}

-- the test for room
room_is : (scenario : Scenario) → has_room scenario ≡ true → HasRoom scenario
room_is scenario is =
    let parts = and_parts (leb ((message_at scenario scenario.target_message).at + target_wait scenario) GREATEST_AT)
    (list_all (is_target_or_has_room scenario) (message_numbers scenario)) is in
    record {
      last = leb-true _ _ parts.0;
      others = λ m other low.
          elim (or_cases (m == scenario.target_message) _
          (each_passes (is_target_or_has_room scenario) m (message_numbers scenario) parts.1 (in-range m 0 (length scenario.multicasts) (omega arith) (omega (arith, low))))) [
            | inl same ↦ absurd (other (eqb-true _ _ same))
            | inr fits ↦ leb-true _ _ fits
          ];
    }

module _ (wanted : Wanted) (deadlines : List (Option ℕ)) (scenario : Scenario) (well : IsScenario scenario) where
  in_wanted : (m g : ℕ) (target : Target) → m < length scenario.multicasts → IsIn g (message_at scenario m).destinations
      → IsIn target (target_at wanted deadlines scenario m g) → MayBeTarget scenario target
  in_wanted m g target low to i = elim (cases_Bool (may_be_target scenario m && is_wanted wanted (deadline_at deadlines m))) [
    | inl may ↦
        elim (rw may at i) [
          | inl same ↦
              subst (MayBeTarget scenario) same
              (let room = room_is (with_target scenario m 0) (and_parts (may_be_target scenario m) (is_wanted wanted (deadline_at deadlines m)) may).0 in
              record { known = low; addressed = goes_from_in scenario m g to; room = record { last = room.last; others = room.others } })
          | inr none ↦ absurd none
        ]
    | inr not_wanted ↦ absurd (rw not_wanted at i)
  ]

  in_many : (target : Target) → IsIn target (many_targets wanted deadlines scenario) → MayBeTarget scenario target
  in_many target i =
      let message = in_of_flat_map (targets_at wanted deadlines scenario) target (message_numbers scenario) i in
      let group = in_of_flat_map (target_at wanted deadlines scenario message.0) target (message_at scenario message.0).destinations message.2 in
      let within = in_of_range message.0 0 (length scenario.multicasts) message.1 in
      in_wanted message.0 group.0 target (omega (arith, within.1)) group.1 group.2

  asked_may : MayBeTarget scenario (target_with deadlines scenario.target_message scenario.target_group)
  asked_may = record { known = well.target; addressed = well.addressed; room = record { last = well.room.last; others = well.room.others } }

  in_targets : (target : Target) → IsIn target (targets_of wanted deadlines scenario) → MayBeTarget scenario target
  in_targets target i = by_many (many_targets wanted deadlines scenario) (λ t j. in_many t j) i where
    by_many : (many : List Target) → ((t : Target) → IsIn t many → MayBeTarget scenario t) → IsIn target (or_asked deadlines scenario many) → MayBeTarget scenario target
    by_many [] may (inl same) = subst (MayBeTarget scenario) same asked_may
    by_many [] may (inr none) = absurd none
    by_many (t ∷ ts) may j = may target j

  some_targets : 0 < length (targets_of wanted deadlines scenario)
  some_targets = by_many (many_targets wanted deadlines scenario) where
    by_many : (many : List Target) → 0 < length (or_asked deadlines scenario many)
    by_many [] = omega arith
    by_many (t ∷ ts) = omega arith

module _ (wanted : Wanted) (plan : Plan) (scenario : Scenario) (well : IsScenario scenario) where
  pub may_be : (target : Target) → IsIn target (targets_by wanted plan scenario) → MayBeTarget scenario target
  may_be target i =
      let all : List Target = targets_of wanted plan.deadlines scenario in
      in_targets wanted plan.deadlines scenario well target (in_of_filter (counts (are_judged all)) target all i).0

  pub all_may_be : All (MayBeTarget scenario) (targets_by wanted plan scenario)
  all_may_be k d l =
      let targets : List Target = targets_by wanted plan scenario in
      may_be (get_or targets k d) (in_of_contains (get_or targets k d) targets (Contains-get_or targets k d l))

  pub some : 0 < length (targets_by wanted plan scenario)
  some = some_count (targets_of wanted plan.deadlines scenario) (some_targets wanted plan.deadlines scenario well)
