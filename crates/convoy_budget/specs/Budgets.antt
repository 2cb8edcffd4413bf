-- The rows of a budget: for each target that has a deadline, each way on which packets travel.
use Rattle.std.specs.Prelude.{◌≡◌, ◌⊎◌, ℕ, Bool, true, false, if◌then◌else◌, List, [], ◌∷◌, map, Option, Some, None, Ok, Err, Result}
use Rattle.std.specs.List.{All, flat_map}
use Rattle.convoy_scenario.specs.Scenario.{Scenario, message_at, message_numbers}
use Rattle.convoy_scenario.specs.Targets.{may_be_target}
use Rattle.convoy_branch.specs.Options.{Settings}
use Rattle.convoy_commands.specs.declared.fault.Fault.{Fault}
use Rattle.convoy_commands.specs.declared.fault.Fault.TheVariants.{Memory}
use Rattle.convoy_commands.specs.Verdicts.{deadline_at}
use Rattle.convoy_survey.specs.Findings.{scenario_at}
use Rattle.convoy_survey.specs.Surveys.{IsTarget}
use Rattle.convoy_budget.specs.declared.kinds.Budget.{Budget}
use Rattle.convoy_budget.specs.declared.kinds.Side.TheVariants.{Later, Earlier}
use Rattle.convoy_budget.specs.declared.kinds.Target.{Target}
use Rattle.convoy_budget.specs.declared.kinds.Test.{Test}
use Rattle.convoy_budget.specs.declared.kinds.Way.{Way}
use Rattle.convoy_budget.specs.declared.kinds.Widening.{Widening}
use Rattle.convoy_budget.specs.Judging.{IsRoomTold, MakesNone}
use Rattle.convoy_budget.specs.Ranges.{range_of_way}
use Rattle.convoy_budget.specs.Ways.{ways_of}

-- TARGETS
-- the message at the group with its deadline, if there is one
abbrev pub with_deadline : ℕ → ℕ → Option ℕ → List Target
with_deadline m g None = []
with_deadline m g (Some deadline) = record { message = m; group = g; deadline = deadline } ∷ []

-- the same, if the message may be the target
abbrev pub target_at : List (Option ℕ) → Scenario → ℕ → ℕ → List Target
target_at deadlines scenario m g = if may_be_target scenario m then with_deadline m g (deadline_at deadlines m) else []

-- the message at each group that it goes to
abbrev pub targets_at : List (Option ℕ) → Scenario → ℕ → List Target
targets_at deadlines scenario m = flat_map (target_at deadlines scenario m) (message_at scenario m).destinations

-- the targets that have deadlines: all of them, in the order of their numbers, or that of which the latency is asked
abbrev pub targets_of : Bool → List (Option ℕ) → Scenario → List Target
targets_of false deadlines scenario = target_at deadlines scenario scenario.target_message scenario.target_group
targets_of true deadlines scenario = flat_map (targets_at deadlines scenario) (message_numbers scenario)

-- it may be the target of the scenario
abbrev pub MayBeTarget : Scenario → Target → Type 0
MayBeTarget scenario target = IsTarget scenario target.message target.group

-- ROWS
-- of which target and of which way a row tells
abbrev pub key_of : Budget → Target × Way
key_of row = (row.target, row.way)

-- what has to keep the deadline of a row
abbrev pub test_of : Bool → Target → Test
test_of of_ceiling target = record { deadline = target.deadline; of_ceiling = of_ceiling }

-- The row tells the range of its way in the scenario, and the room that it has at either side before this scenario's target misses the deadline.
pub record IsBudgetOf (settings : Settings) (of_ceiling : Bool) (scenario : Scenario) (row : Budget) : Type 0 where
  pub range : (row.least, row.most) ≡ range_of_way scenario row.way
  pub later : IsRoomTold settings (test_of of_ceiling row.target) scenario (record { way = row.way; side = Later }) row.later
  pub earlier : IsRoomTold settings (test_of of_ceiling row.target) scenario (record { way = row.way; side = Earlier }) row.earlier

-- it does so of the scenario with the target of the row, or around it
abbrev pub IsBudget : Settings → Bool → Option ℕ → Scenario → Budget → Type 0
IsBudget settings of_ceiling span scenario row =
    IsBudgetOf settings of_ceiling (scenario_at span scenario row.target.message row.target.group) row

-- the target with each of these ways
abbrev pub keys_of : List Way → Target → List (Target × Way)
keys_of ways target = map (λ way. (target, way)) ways

-- There is a row for each of these targets and each way on which packets travel, in their orders, and each is the budget of its way.
pub record AreBudgets (settings : Settings) (of_ceiling : Bool) (span : Option ℕ) (scenario : Scenario) (targets : List Target) (rows : List Budget) : Type 0 where
  pub keys : map key_of rows ≡ flat_map (keys_of (ways_of scenario)) targets
  pub told : All (IsBudget settings of_ceiling span scenario) rows

-- some range of some way makes no scenario, for the cause that the fault tells
abbrev pub IsBroken : Scenario → Fault → Type 0
IsBroken scenario fault = (widening : Widening) × MakesNone scenario widening fault

-- it is so with some target, or around it
abbrev pub HasBroken : Option ℕ → Scenario → Fault → Type 0
HasBroken span scenario fault = (m : ℕ) × (g : ℕ) × IsBroken (scenario_at span scenario m g) fault

-- ONE ROW
-- the target may be one of the scenario
abbrev pub MayBeKey : Scenario → Target × Way → Type 0
MayBeKey scenario key = MayBeTarget scenario key.0

-- The row is that of the target and the way, and tells their budget.
pub record TellsKey (settings : Settings) (of_ceiling : Bool) (span : Option ℕ) (scenario : Scenario) (key : Target × Way) (row : Budget) : Type 0 where
  pub of_key : key_of row ≡ key
  pub told : IsBudget settings of_ceiling span scenario row

-- what may come of a target and a way: their row; or the fault of a range that makes no scenario; or that memory ran out
abbrev pub MayTell : Settings → Bool → Option ℕ → Scenario → Target × Way → Result Budget Fault → Type 0
MayTell settings of_ceiling span scenario key (Ok row) = TellsKey settings of_ceiling span scenario key row
MayTell settings of_ceiling span scenario key (Err fault) = HasBroken span scenario fault ⊎ (fault ≡ Memory)
