-- A scenario with its groups listed in another order.
use Rattle.std.specs.Prelude.{ℕ, List, length, map, Result}
use Rattle.std.specs.List.{range_with_len}
use Rattle.std.specs.List.Sorted.{IsPermutation}
use Rattle.convoy_draft.specs.declared.fault.ScenarioFault.{ScenarioFault}
use Rattle.convoy_scenario.specs.Naming.{draft_for}
use Rattle.convoy_scenario.specs.Numbering.{scenario_of_draft}
use Rattle.convoy_scenario.specs.Scenario.{Scenario, group_name_at}
use Rattle.convoy_orders.specs.Relisted.{relisted}

-- the numbers of the groups
abbrev pub group_numbers : Scenario → List ℕ
group_numbers scenario = range_with_len 0 (length scenario.groups)

-- each group once, by its number in the scenario
abbrev pub IsOrder : Scenario → List ℕ → Type 0
IsOrder scenario order = IsPermutation (group_numbers scenario) order

-- the names of some groups
abbrev pub names_of : Scenario → List ℕ → List (List ℕ)
names_of scenario order = map (group_name_at scenario) order

-- the scenario as it is written, with its groups listed in that order
abbrev pub listed : Scenario → List ℕ → Result Scenario ScenarioFault
listed scenario order = scenario_of_draft (relisted (names_of scenario order) (draft_for scenario))
