-- What `budget` writes: how slow each way may get, and how fast, before a deadline is missed.
use Rattle.std.specs.Prelude.{◌≡◌, ◌⊎◌, ℕ, ◌<◌, Bool, List, [], length, Ok, Err}
use Rattle.std.specs.List.{list_any}
use Rattle.convoy_draft.specs.declared.fault.Key.TheVariants.{Within}
use Rattle.convoy_draft.specs.declared.fault.ScenarioFault.TheVariants.{Shape}
use Rattle.convoy_scenario.specs.Scenario.{Scenario}
use Rattle.convoy_scenario.specs.WellFormed.{IsScenario}
use Rattle.convoy_toml.specs.declared.asked.Asked.{Asked}
use Rattle.convoy_toml.specs.Around.{span_asked}
use Rattle.convoy_toml.specs.Reading.{deadlines_of_text, scenario_of_text_by}
use Rattle.convoy_branch.specs.Options.{Settings}
use Rattle.convoy_tables.specs.declared.format.Format.{Format}
use Rattle.convoy_tables.specs.Formats.{table_text}
use Rattle.convoy_commands.specs.declared.fault.Fault.{Fault}
use Rattle.convoy_commands.specs.declared.fault.Fault.TheVariants as faults
use Rattle.convoy_commands.specs.declared.done.Done.{Done}
use Rattle.convoy_commands.specs.Ends.{end_by}
use Rattle.convoy_commands.specs.Measured.{measure_of_text}
use Rattle.convoy_commands.specs.Replies.{Rule}
use Rattle.convoy_commands.specs.Searches.{IsFaultyBy}
use Rattle.convoy_survey.specs.Surveys.{rows_asked}
use Rattle.convoy_survey.specs.Times.{times_of}
use Rattle.convoy_budget.specs.declared.kinds.Budget.{Budget}
use Rattle.convoy_budget.specs.declared.kinds.Target.{Target}
use Rattle.convoy_budget.specs.Budgets.{AreBudgets, HasBroken, targets_of}
use Rattle.convoy_budget.specs.Cells.{is_row_beyond, is_row_fault, is_row_open, table_of}

-- how it ends with these rows: that the deadline is missed with the ranges as they are comes before a fault, and a fault before a search that did not end
abbrev pub end_of : List Budget → Done
end_of rows = end_by (list_any is_row_beyond rows) (list_any is_row_fault rows) (list_any is_row_open rows)

-- the targets of the scenario of a text that have deadlines, where that is asked: where all is asked around them, whether or not their messages wait
abbrev pub targets_of_text : Bool → Asked → List ℕ → Scenario → List Target
targets_of_text of_all asked text scenario = targets_of of_all (deadlines_of_text asked text) (rows_asked asked scenario)

-- THE HEADLINE. What is written is the table of the budgets of all ways on which packets travel, for the targets of the scenario that was read which have deadlines, of which there is one at least, each around its own target where all is asked so, in this format, and the end is told by all rows.
pub record IsBudgetTold (format : Format) (of_all of_ceiling : Bool) (asked : Asked) (settings : Settings) (text : List ℕ) (end : Done) (out : List ℕ) : Type 0 where
  pub scenario : Scenario
  pub rows : List Budget
  pub read : scenario_of_text_by asked text ≡ Ok scenario
  pub lawful : IsScenario scenario
  pub some : 0 < length (targets_of_text of_all asked text scenario)
  pub told :
      AreBudgets settings of_ceiling (span_asked asked.around scenario) (rows_asked asked scenario) (targets_of_text of_all asked text scenario) rows
  pub written : out ≡ table_text format (table_of (times_of format (measure_of_text settings.unit text scenario)) scenario rows)
  pub ends : end ≡ end_of rows

-- The text is that of a scenario of which no target that is asked has a deadline: the fault tells the key of one.
pub record HasNoDeadline (of_all : Bool) (asked : Asked) (text : List ℕ) (fault : Fault) : Type 0 where
  pub scenario : Scenario
  pub read : scenario_of_text_by asked text ≡ Ok scenario
  pub none : targets_of_text of_all asked text scenario ≡ []
  pub told : fault ≡ faults.Scenario (Shape Within)

-- The text is that of a scenario of which some range makes none, for the cause that the fault tells.
pub record IsBrokenText (asked : Asked) (text : List ℕ) (fault : Fault) : Type 0 where
  pub scenario : Scenario
  pub read : scenario_of_text_by asked text ≡ Ok scenario
  pub broken : HasBroken (span_asked asked.around scenario) (rows_asked asked scenario) fault

-- what `budget` may answer
abbrev pub BudgetSays : Format → Bool → Bool → Asked → Settings → Rule
BudgetSays format of_all of_ceiling asked settings text (Ok (end, out)) = IsBudgetTold format of_all of_ceiling asked settings text end out
BudgetSays format of_all of_ceiling asked settings text (Err fault) =
    IsFaultyBy asked text fault ⊎ (HasNoDeadline of_all asked text fault ⊎ IsBrokenText asked text fault)
