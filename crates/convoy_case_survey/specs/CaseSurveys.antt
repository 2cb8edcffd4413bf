-- What a survey writes of a text in which several may send a message: the rows of each case, of who sends.
use Rattle.std.specs.Prelude.{◌≡◌, ◌⊎◌, ℕ, ◌<◌, ◌≤◌, ◌-◌, Bool, List, [], ◌∷◌, ◌++◌, flat_map, length, map, Some, Ok, Err, codes}
use Rattle.std.specs.List.{All, list_any, range_with_len}
use Rattle.convoy_draft.specs.declared.fault.Key.TheVariants.{From}
use Rattle.convoy_draft.specs.declared.fault.ScenarioFault.TheVariants.{Shape}
use Rattle.convoy_lines.specs.Texts.{spaced}
use Rattle.convoy_scenario.specs.Naming.{sender_word}
use Rattle.convoy_scenario.specs.Scenario.{Scenario, message_at}
use Rattle.convoy_scenario.specs.WellFormed.{IsScenario}
use Rattle.convoy_toml.specs.declared.asked.Asked.{Asked}
use Rattle.convoy_toml.specs.declared.cases.TheConstants.{MOST_CASES}
use Rattle.convoy_toml.specs.Around.{span_asked}
use Rattle.convoy_toml.specs.Cases.{cases_of_text}
use Rattle.convoy_toml.specs.Reading.{deadlines_of_text, scenario_of_text_by}
use Rattle.convoy_branch.specs.Options.{Settings}
use Rattle.convoy_tables.specs.declared.format.Format.{Format}
use Rattle.convoy_tables.specs.Formats.{table_text}
use Rattle.convoy_tables.specs.Tables.{Cell, Table, word}
use Rattle.convoy_commands.specs.declared.done.Done.{Done}
use Rattle.convoy_commands.specs.declared.fault.Fault.{Fault}
use Rattle.convoy_commands.specs.declared.fault.Fault.TheVariants as faults
use Rattle.convoy_commands.specs.Ends.{end_by}
use Rattle.convoy_commands.specs.Measured.{measure_of_text}
use Rattle.convoy_commands.specs.Replies.{Rule}
use Rattle.convoy_commands.specs.Searches.{IsFaultyBy}
use Rattle.convoy_survey.specs.Cells.{columns_of, table_of}
use Rattle.convoy_survey.specs.Findings.{is_fault}
use Rattle.convoy_survey.specs.Surveys.{AreSurveyed, is_row_beyond, is_row_open}
use Rattle.convoy_survey.specs.Times.{times_of}
use Rattle.convoy_case_survey.specs.declared.surveyed_case.SurveyedCase.{SurveyedCase}

-- the case of that number, whatever its target
abbrev pub case_asked : Asked → ℕ → Asked
case_asked asked number = record asked { case = Some number }

-- The rows are those of the case of its number: of the scenario that is read where that is asked about.
pub record IsSurveyedCase (format : Format) (asked : Asked) (settings : Settings) (text : List ℕ) (case : SurveyedCase) : Type 0 where
  pub read : scenario_of_text_by (case_asked asked case.number) text ≡ Ok case.scenario
  pub lawful : IsScenario case.scenario
  pub surveyed : AreSurveyed settings (span_asked asked.around case.scenario) case.scenario case.rows.items
  pub times : case.times ≡ times_of format (measure_of_text settings.unit text case.scenario)
  pub deadlines : case.deadlines.items ≡ deadlines_of_text (case_asked asked case.number) text

-- a message and who sends it
abbrev pub sent_by : Scenario → ℕ → List ℕ
sent_by scenario m = (message_at scenario m).name ++ spaced (sender_word scenario (message_at scenario m).sender)

-- each message and who sends it, in their order
abbrev pub senders_word : Scenario → List ℕ
senders_word scenario =
    sent_by scenario 0 ++ flat_map (λ m. spaced (sent_by scenario m)) (range_with_len 1 (length scenario.multicasts - 1))

-- the rows of a case with one more cell at their ends, which tells who sends
abbrev pub case_rows : Bool → SurveyedCase → List (List Cell)
case_rows with_ceilings case =
    map (λ row. row ++ word (senders_word case.scenario) ∷ [])
    (table_of with_ceilings case.times case.deadlines.items case.scenario case.rows.items).rows

-- the columns of the first case, and one more
abbrev pub case_columns : Bool → SurveyedCase → List Cell
case_columns with_ceilings case = columns_of with_ceilings case.times case.deadlines.items ++ word (codes "senders") ∷ []

-- the table of all cases, the rows of one below those of another
abbrev pub cases_table : Bool → List SurveyedCase → Table
cases_table with_ceilings [] = record { columns = []; rows = [] }
cases_table with_ceilings (case ∷ cases) =
    record { columns = case_columns with_ceilings case; rows = flat_map (case_rows with_ceilings) (case ∷ cases) }

-- a row of the case is beyond the deadline of its message
abbrev pub is_case_beyond : SurveyedCase → Bool
is_case_beyond case = list_any (is_row_beyond case.deadlines.items) case.rows.items

-- memory ran out for a row of the case
abbrev pub is_case_faulty : SurveyedCase → Bool
is_case_faulty case = list_any (λ row. is_fault row.finding) case.rows.items

-- a row of the case is open
abbrev pub is_case_open : SurveyedCase → Bool
is_case_open case = list_any (is_row_open case.deadlines.items) case.rows.items

-- how a survey of these cases ends
abbrev pub cases_end : List SurveyedCase → Done
cases_end cases = end_by (list_any is_case_beyond cases) (list_any is_case_faulty cases) (list_any is_case_open cases)

-- THE HEADLINE. What is written is the table of the rows of each case of the text, in their order, with who sends in each row, and the end is told by the rows.
pub record IsSurveyOfCases (format : Format) (with_ceilings : Bool) (asked : Asked) (settings : Settings) (text : List ℕ) (end : Done) (out : List ℕ) : Type 0 where
  pub cases : List SurveyedCase
  pub few : cases_of_text text ≤ MOST_CASES
  pub all : map (λ case. case.number) cases ≡ range_with_len 0 (cases_of_text text)
  pub surveyed : All (IsSurveyedCase format asked settings text) cases
  pub written : out ≡ table_text format (cases_table with_ceilings cases)
  pub ends : end ≡ cases_end cases

-- There are more cases than are asked about.
pub record AreTooMany (text : List ℕ) (fault : Fault) : Type 0 where
  pub many : MOST_CASES < cases_of_text text
  pub told : fault ≡ faults.Scenario (Shape From)

-- The text is faulty where that case is asked about.
pub record IsCaseFaulty (asked : Asked) (text : List ℕ) (fault : Fault) : Type 0 where
  pub number : ℕ
  pub known : number < cases_of_text text
  pub faulty : IsFaultyBy (case_asked asked number) text fault

-- what may be answered
abbrev pub survey_of_cases_says : Format → Bool → Asked → Settings → Rule
survey_of_cases_says format with_ceilings asked settings text (Ok (end, out)) =
    IsSurveyOfCases format with_ceilings asked settings text end out
survey_of_cases_says format with_ceilings asked settings text (Err fault) = AreTooMany text fault ⊎ IsCaseFaulty asked text fault
