-- When schedules show that no order of a scenario's groups is below an excess: each of some groups has a target that is so late there where the others of these groups are listed behind it.
use Rattle.std.specs.Prelude.{ℕ, ◌==◌, nat_lt, Bool, false, ◌&&◌, not, List, ◌∷◌, ◌++◌, length, map, filter, slice_index_or, Option, Some, None, option_map, Result, Ok, Err}
use Rattle.std.specs.List.{list_all}
use Rattle.convoy_draft.specs.declared.fault.ScenarioFault.{ScenarioFault}
use Rattle.convoy_scenario.specs.Scenario.{Scenario}
use Rattle.convoy_sim.specs.Delivery.{latency_of}
use Rattle.convoy_plans.specs.Plans.{has}
use Rattle.convoy_best_order.specs.declared.excess.Excess.{Excess}
use Rattle.convoy_best_order.specs.declared.target.Target.{Target}
use Rattle.convoy_best_order.specs.Excesses.{is_less}
use Rattle.convoy_best_order.specs.Orders.{group_numbers, listed}
use Rattle.convoy_best_order.specs.Targets.{asked_of, limit_of}
use Rattle.convoy_plan_certificate.specs.declared.branch.Witness.{Witness}
use Rattle.convoy_plan_certificate.specs.Schedules.{schedule_in}

-- ORDERS
-- each group is among them, and no more are than there are groups
abbrev pub is_order : Scenario → List ℕ → Bool
is_order scenario order = (length order == length scenario.groups) && list_all (λ g. has g order) (group_numbers scenario)

-- the groups of a scenario that are none of these
abbrev pub others : Scenario → List ℕ → List ℕ
others scenario groups = filter (λ g. not (has g groups)) (group_numbers scenario)

-- these groups without one
abbrev pub without : List ℕ → ℕ → List ℕ
without groups g = filter (λ h. not (h == g)) groups

-- the order in which the others stand ahead of a group, and the rest of these groups behind it
abbrev pub witness_order : Scenario → List ℕ → ℕ → List ℕ
witness_order scenario groups g = others scenario groups ++ g ∷ without groups g

-- WITNESSES
-- no target: what stands where a place has none
abbrev pub no_target : Target
no_target = record { message = 0; group = 0; deadline = None }

abbrev pub target_at : List Target → ℕ → Target
target_at targets k = slice_index_or targets k no_target

-- the groups of the targets of some witnesses
abbrev pub witness_groups : List Target → List Witness → List ℕ
witness_groups targets witnesses = map (λ witness. (target_at targets witness.target).group) witnesses

-- a latency of the target, if there is one, exceeds its limit by so much, or by more
abbrev pub is_past : Excess → Target → Option ℕ → Bool
is_past least target None = false
is_past least target (Some latency) = not (is_less (record { latency = latency; limit = limit_of target }) least)

-- the latency of the schedule of a witness in a scenario that may be made, if it is a schedule there
abbrev pub latency_in : Result Scenario ScenarioFault → Witness → Option ℕ
latency_in (Err fault) witness = None
latency_in (Ok instance) witness = option_map (latency_of instance) (schedule_in instance witness)

-- the witness shows it of a target, with the groups in that order
abbrev pub is_late_in : Scenario → Excess → Target → List ℕ → Witness → Bool
is_late_in scenario least target order witness =
    is_order scenario order && is_past least target (latency_in (listed (asked_of scenario target) order) witness)

-- the witness shows it of its own target, beside those of these groups
abbrev pub is_late : Scenario → List Target → Excess → List ℕ → Witness → Bool
is_late scenario targets least groups witness =
    nat_lt witness.target (length targets)
    && (let target = target_at targets witness.target in is_late_in scenario least target (witness_order scenario groups target.group) witness)

-- there is a witness, and each of them shows it beside the others
abbrev pub are_late : Scenario → List Target → Excess → List Witness → Bool
are_late scenario targets least witnesses =
    nat_lt 0 (length witnesses) && list_all (is_late scenario targets least (witness_groups targets witnesses)) witnesses
