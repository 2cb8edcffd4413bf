-- What a survey of a scenario writes.
use Rattle.std.specs.Prelude.{◌≡◌, ℕ, ◌<◌, Bool, List, length, map, Option, Some, None, Result, Ok, Err}
use Rattle.std.specs.List.{All, list_any}
use denote.Ref.{Bor}
use Rattle.std.specs.declared.alloc.AllocError.{AllocError}
use Rattle.convoy_around.specs.Around.{around_at}
use Rattle.convoy_scenario.specs.Room.{HasRoom}
use Rattle.convoy_scenario.specs.Scenario.{Scenario, GoesTo}
use Rattle.convoy_scenario.specs.Targets.{targets_of, with_target}
use Rattle.convoy_scenario.specs.WellFormed.{IsScenario}
use Rattle.convoy_toml.specs.declared.asked.Asked.{Asked}
use Rattle.convoy_toml.specs.Around.{span_asked}
use Rattle.convoy_toml.specs.Reading.{deadlines_of_text, scenario_of_text_by}
use Rattle.convoy_branch.specs.Options.{Settings}
use Rattle.convoy_tables.specs.declared.format.Format.{Format}
use Rattle.convoy_tables.specs.Formats.{table_text}
use Rattle.convoy_commands.specs.declared.done.Done.{Done}
use Rattle.convoy_commands.specs.Measured.{measure_of_text}
use Rattle.convoy_commands.specs.Replies.{Rule}
use Rattle.convoy_commands.specs.Ends.{end_by}
use Rattle.convoy_commands.specs.Searches.{IsFaultyBy}
use Rattle.convoy_commands.specs.Verdicts.{deadline_at}
use Rattle.convoy_survey.specs.declared.finding.Finding.{Finding}
use Rattle.convoy_survey.specs.declared.finding.Surveyed.{Surveyed}
use Rattle.convoy_survey.specs.Cells.{table_of}
use Rattle.convoy_survey.specs.Findings.{IsRowBy, MayAnswer, is_fault, target_of}
use Rattle.convoy_survey.specs.Judgements.{is_finding_beyond, is_finding_open}
use Rattle.convoy_survey.specs.Times.{times_of}

-- the message may be the target of the scenario at the group: it goes there, and its window has room
pub record IsTarget (scenario : Scenario) (message group : ℕ) : Type 0 where
  pub known : message < length scenario.multicasts
  pub addressed : GoesTo scenario message group
  pub room : HasRoom (with_target scenario message group)

-- a call on these terms may be made for each target of the scenario
abbrev pub TakesTargets : Scenario → (ℕ → ℕ → Type 0) → Type 0
TakesTargets scenario may_call =
    (message group : ℕ) → IsTarget scenario message group → may_call message group

-- the pair of a message and a group may be the target
abbrev pub IsTargetPair : Scenario → ℕ × ℕ → Type 0
IsTargetPair scenario target = IsTarget scenario target.0 target.1

-- It may be answered, with some watch.
pub record MayAnswerBy {W : Type 0} (may_answer : ℕ → ℕ → Bor W → Result Finding AllocError → Type 0) (message group : ℕ) (answer : Result Finding AllocError) : Type 0 where
  pub watch : Bor W
  pub answered : may_answer message group watch answer

-- The row is that of the target, and tells what may be answered for it.
pub record TellsTarget (may_answer : ℕ → ℕ → Result Finding AllocError → Type 0) (target : ℕ × ℕ) (row : Surveyed) : Type 0 where
  pub of_target : target_of row ≡ target
  pub told : IsRowBy may_answer row

-- There is a row for each message that may be the target, at each group that it goes to, in their order, and each tells what the search for that target answered, where such answers may be given.
pub record AreRowsBy (scenario : Scenario) (may_answer : ℕ → ℕ → Result Finding AllocError → Type 0) (rows : List Surveyed) : Type 0 where
  pub targets : map target_of rows ≡ targets_of scenario
  pub told : All (IsRowBy may_answer) rows

-- the scenario whose targets have rows: where all is asked around each target it has the same messages, of which none waits, so that each has room (`AroundHasEachTarget`)
abbrev pub with_rows : Option ℕ → Scenario → Scenario
with_rows None scenario = scenario
with_rows (Some span) scenario = around_at 0 scenario scenario.target_message scenario.target_group

-- the same, where that is asked
abbrev pub rows_asked : Asked → Scenario → Scenario
rows_asked asked scenario = with_rows (span_asked asked.around scenario) scenario

-- they are the rows by searches with these settings
abbrev pub AreSurveyed : Settings → Option ℕ → Scenario → List Surveyed → Type 0
AreSurveyed settings span scenario rows = AreRowsBy (with_rows span scenario) (MayAnswer settings span scenario) rows

-- the row is beyond the deadline of its message
abbrev pub is_row_beyond : List (Option ℕ) → Surveyed → Bool
is_row_beyond deadlines row = is_finding_beyond (deadline_at deadlines row.message) row.finding

-- the row is open: it is not known whether it keeps the deadline of its message, or where that has none the search did not end
abbrev pub is_row_open : List (Option ℕ) → Surveyed → Bool
is_row_open deadlines row = is_finding_open (deadline_at deadlines row.message) row.finding

-- how a survey with these rows ends: one beyond its deadline comes before a fault, and that before one that is open
abbrev pub end_of : List (Option ℕ) → List Surveyed → Done
end_of deadlines rows =
    end_by (list_any (is_row_beyond deadlines) rows) (list_any (λ row. is_fault row.finding) rows) (list_any (is_row_open deadlines) rows)

-- THE HEADLINE. What is written is the table of these rows of the scenario that was read, where that is asked, each around its own target where all is asked so, and of each of its messages at all groups, in this format, judged by the deadlines of its messages, and with the ceilings where they are asked for, and the end is told by the rows. What a ceiling is worth the law `CeilingHolds` says.
pub record IsSurvey (format : Format) (with_ceilings : Bool) (asked : Asked) (settings : Settings) (text : List ℕ) (end : Done) (out : List ℕ) : Type 0 where
  pub scenario : Scenario
  pub rows : List Surveyed
  pub read : scenario_of_text_by asked text ≡ Ok scenario
  pub lawful : IsScenario scenario
  pub surveyed : AreSurveyed settings (span_asked asked.around scenario) scenario rows
  pub written : out
      ≡ table_text format
      (table_of with_ceilings (times_of format (measure_of_text settings.unit text scenario)) (deadlines_of_text asked text) scenario rows)
  pub ends : end ≡ end_of (deadlines_of_text asked text) rows

-- what a survey may answer for a text
abbrev pub SurveySays : Format → Bool → Asked → Settings → Rule
SurveySays format with_ceilings asked settings text (Ok (end, out)) = IsSurvey format with_ceilings asked settings text end out
SurveySays format with_ceilings asked settings text (Err fault) = IsFaultyBy asked text fault
