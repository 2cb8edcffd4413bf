-- What a survey of a scenario writes where outages are asked for.
use Rattle.std.specs.Prelude.{◌≡◌, ◌⊎◌, ℕ, Bool, ◌||◌, List, Option, Some, is_none, Ok, Err}
use Rattle.std.specs.List.{list_any}
use Rattle.convoy_scenario.specs.Scenario.{Scenario}
use Rattle.convoy_scenario.specs.WellFormed.{IsScenario}
use Rattle.convoy_toml.specs.declared.asked.Asked.{Asked}
use Rattle.convoy_toml.specs.Around.{span_asked}
use Rattle.convoy_toml.specs.Reading.{deadlines_of_text, scenario_of_text_by}
use Rattle.convoy_outages.specs.declared.outage.Outage.{Outage}
use Rattle.convoy_branch.specs.Options.{Settings}
use Rattle.convoy_tables.specs.declared.format.Format.{Format}
use Rattle.convoy_tables.specs.Formats.{table_text}
use Rattle.convoy_commands.specs.declared.done.Done.{Done}
use Rattle.convoy_commands.specs.declared.verdict.Verdict.{Verdict}
use Rattle.convoy_commands.specs.Ceilings.{IsOutageRefused}
use Rattle.convoy_commands.specs.Ends.{end_by}
use Rattle.convoy_commands.specs.Measured.{measure_of_text}
use Rattle.convoy_commands.specs.Replies.{Rule}
use Rattle.convoy_commands.specs.Searches.{IsFaultyBy}
use Rattle.convoy_commands.specs.Verdicts.{deadline_at}
use Rattle.convoy_survey.specs.Findings.{is_fault, is_open, least_of}
use Rattle.convoy_survey.specs.Judgements.{is_beyond, is_open_by, verdict_at}
use Rattle.convoy_survey.specs.Times.{times_of}
use Rattle.convoy_outage_answers.specs.declared.row_through.RowThrough.{RowThrough}
use Rattle.convoy_outage_answers.specs.Latencies.{LastsFor}
use Rattle.convoy_outage_answers.specs.RowsThrough.{AreRowsThrough}
use Rattle.convoy_outage_answers.specs.TablesThrough.{table_through}

-- the verdict on a row, where its message has a deadline: its latency is at least what the search found, and at most that through outages
abbrev pub verdict_through : List (Option ℕ) → RowThrough → Option Verdict
verdict_through deadlines row = verdict_at (deadline_at deadlines row.surveyed.message) (least_of row.surveyed.finding) row.through

-- the row is beyond the deadline of its message
abbrev pub is_beyond_through : List (Option ℕ) → RowThrough → Bool
is_beyond_through deadlines row = is_beyond (verdict_through deadlines row)

-- memory ran out for the row, while its latency was sought or while that through outages was
abbrev pub is_fault_through : RowThrough → Bool
is_fault_through row = is_fault row.surveyed.finding || is_none row.through

-- the row is open: it is not known whether it keeps the deadline of its message, or where that has none the search did not end
abbrev pub is_open_through : List (Option ℕ) → RowThrough → Bool
is_open_through deadlines row = is_open_by (verdict_through deadlines row) (is_open row.surveyed.finding)

-- how a survey with these rows ends: one beyond its deadline comes before a fault, and that before one that is open
abbrev pub end_through : List (Option ℕ) → List RowThrough → Done
end_through deadlines rows =
    end_by (list_any (is_beyond_through deadlines) rows) (list_any is_fault_through rows) (list_any (is_open_through deadlines) rows)

-- THE HEADLINE. What is written is the table of these rows of the scenario that was read, where that is asked, each around its own target where all is asked so, with what the latency is through outages that last so long in all as is asked, and of each of its messages at all groups, in this format, judged by the deadlines of its messages, and with the ceilings where they are asked for, and the end is told by the rows. What a ceiling is worth the law `CeilingHolds` says.
pub record IsSurveyThrough (format : Format) (with_ceilings : Bool) (outage : Outage) (asked : Asked) (settings : Settings) (text : List ℕ) (end : Done) (out : List ℕ) : Type 0 where
  pub scenario : Scenario
  pub span : ℕ
  pub rows : List RowThrough
  pub read : scenario_of_text_by asked text ≡ Ok scenario
  pub lawful : IsScenario scenario
  pub lasting : LastsFor outage scenario span
  pub surveyed : AreRowsThrough settings span (span_asked asked.around scenario) scenario rows
  pub written : out
      ≡ table_text format
      (table_through with_ceilings (times_of format (measure_of_text settings.unit text scenario)) (deadlines_of_text asked text) scenario rows)
  pub ends : end ≡ end_through (deadlines_of_text asked text) rows

-- what a survey may answer for a text where outages are asked for
abbrev pub SurveyThroughSays : Format → Bool → Outage → Asked → Settings → Rule
SurveyThroughSays format with_ceilings outage asked settings text (Ok (end, out)) = IsSurveyThrough format with_ceilings outage asked settings text end out
SurveyThroughSays format with_ceilings outage asked settings text (Err fault) = IsFaultyBy asked text fault ⊎ IsOutageRefused (Some outage) asked text fault
