-- The workflow of a TOML table, and of a text.
use Rattle.std.specs.Prelude.{ℕ, Bool, false, ◌||◌, List, [], map, Option, Some, None, is_some, option_and_then, Result, Ok, Err}
use Rattle.std.specs.Option.{option_map_or}
use Rattle.toml.specs.Data.{Items, no_items, item, Members, as_array, as_table, get_member}
use Rattle.convoy_lines.specs.Results.{◌>>=◌}
use Rattle.convoy_draft.specs.declared.fault.Key.TheVariants.{From, Multicast, Target, Until}
use Rattle.convoy_draft.specs.declared.fault.ScenarioFault.{ScenarioFault}
use Rattle.convoy_draft.specs.declared.fault.ScenarioFault.TheVariants as faults
use Rattle.convoy_draft.specs.Draft.{Draft}
use Rattle.convoy_draft.specs.Keys.{key_word}
use Rattle.convoy_scenario.specs.Scenario.{Scenario}
use Rattle.convoy_scenario.specs.Numbering.{scenario_of_draft}
use Rattle.convoy_toml.specs.declared.around.Around.{Around}
use Rattle.convoy_toml.specs.declared.asked.Asked.{Asked}
use Rattle.convoy_toml.specs.Deadlines.{deadlines_of_written}
use Rattle.convoy_toml.specs.Reading.{need_ranges, table_of_text}
use Rattle.convoy_toml.specs.Shape.{WrittenMessage}
use Rattle.convoy_toml.specs.Times.{draft_of_written}
use Rattle.convoy_causes.specs.declared.cause.Cause.{Cause}
use Rattle.convoy_workflow_words.specs.Words.{workflow_word}
use Rattle.convoy_workflow_words.specs.declared.fault.WorkflowFault.{WorkflowFault}
use Rattle.convoy_workflow_words.specs.declared.fault.WorkflowFault.TheVariants.{Scenario as of_a_scenario}
use Rattle.convoy_workflow_words.specs.declared.fault.WorkflowKey.TheVariants.{After, On}
use Rattle.convoy_workflows.specs.declared.workflow.Workflow.{Workflow}
use Rattle.convoy_workflows.specs.Origins.{origin_of}
use Rattle.convoy_workflows.specs.Rules.{cause_of, checked_causes}
use Rattle.convoy_workflows.specs.Shape.{WrittenWorkflow, of_scenario, written_of_table}
use Rattle.convoy_workflows.specs.Windows.{in_windows}
use Rattle.convoy_workflows.specs.Workflows.{WorkflowView}

-- nothing may be asked around the target: messages that follow others have no other window
abbrev pub need_own_windows : Option Around → Result (Unit {0}) WorkflowFault
need_own_windows None = Ok tt
need_own_windows (Some around) = Err (of_a_scenario (faults.Shape Until))

-- the scenario of a draft, in which a packet that travels has a range that is written, where time is real
abbrev pub scenario_with_ranges : Bool → Draft → Result Scenario ScenarioFault
scenario_with_ranges has_least draft = do
  scenario ← scenario_of_draft draft
  _ ← need_ranges has_least draft
  Ok scenario

-- the workflow of a scenario in which messages follow these, where the time counts from the issue of the message of that name
abbrev pub counting_from : Scenario → List Cause → List WrittenMessage → Option (List ℕ) → Result WorkflowView WorkflowFault
counting_from scenario causes messages name = do
  origin ← origin_of scenario causes messages name
  Ok (record { scenario = scenario; causes = causes; origin = origin })

-- the workflow of what is written: its times in ticks first, then the rules for what messages follow, then those for the scenario in which they have their windows, then the deadlines, and then the message from whose issue the time counts
abbrev pub workflow_of_written : Asked → WrittenWorkflow → Result WorkflowView WorkflowFault
workflow_of_written asked written = do
  _ ← need_own_windows asked.around
  draft ← of_scenario (draft_of_written written.scenario)
  causes ← checked_causes draft written.causes
  scenario ← of_scenario (scenario_with_ranges (is_some written.scenario.least) (in_windows causes draft))
  _ ← of_scenario (deadlines_of_written asked.at_most written.scenario)
  counting_from scenario (map cause_of causes) written.scenario.messages written.origin

-- what a table gives: its shape first, then what is said of that
abbrev pub workflow_of_table : Asked → Members → Result WorkflowView WorkflowFault
workflow_of_table asked table = written_of_table asked.target table >>= workflow_of_written asked

-- what a text gives, where that is asked
abbrev pub workflow_of_text : Asked → List ℕ → Result WorkflowView WorkflowFault
workflow_of_text asked text = of_scenario (table_of_text text) >>= workflow_of_table asked

-- the deadlines of the messages of a text, where that is asked, in ticks, by the numbers of the messages; none where the text is at fault
abbrev pub deadlines_of_workflow : Asked → List ℕ → List (Option ℕ)
deadlines_of_workflow asked text = of_reading (of_scenario (table_of_text text) >>= of_table) where
  of_table : Members → Result (List (Option ℕ)) WorkflowFault
  of_table table = written_of_table asked.target table >>= λ written. of_scenario (deadlines_of_written asked.at_most written.scenario)

  of_reading : Result (List (Option ℕ)) WorkflowFault → List (Option ℕ)
  of_reading (Ok deadlines) = deadlines
  of_reading (Err fault) = []

-- what was read, without what stands beside it
abbrev pub view_of : Workflow → WorkflowView
view_of workflow = record { scenario = workflow.scenario; causes = workflow.causes.items; origin = workflow.origin }

abbrev pub workflow_read : Result Workflow WorkflowFault → Result WorkflowView WorkflowFault
workflow_read (Ok workflow) = Ok (view_of workflow)
workflow_read (Err fault) = Err fault

-- the table of a message says that it follows another
abbrev pub has_cause : Members → Bool
has_cause table = is_some (get_member (workflow_word After) table) || is_some (get_member (workflow_word On) table)

-- some item is the table of a message that follows another
abbrev pub some_follow : Items → Bool
some_follow no_items = false
some_follow (item d ds) = option_map_or has_cause (as_table d) false || some_follow ds

-- the table of a target says from whose issue its time counts
abbrev pub has_origin : Members → Bool
has_origin table = is_some (get_member (key_word From) table)

-- the table of a text has what only workflow texts have
abbrev pub is_workflow_table : Members → Bool
is_workflow_table table =
    option_map_or some_follow (option_and_then as_array (get_member (key_word Multicast) table)) false
    || option_map_or has_origin (option_and_then as_table (get_member (key_word Target) table)) false

-- a text has what only workflow texts have: a message in it follows another, or its target's time counts from the issue of another message. No other text is read as one
abbrev pub is_workflow_text : List ℕ → Bool
is_workflow_text text = of_reading (table_of_text text) where
  of_reading : Result Members ScenarioFault → Bool
  of_reading (Ok table) = is_workflow_table table
  of_reading (Err fault) = false
