-- How the surveys of all cases are made: words of the program's own parts.
use Rattle.std.specs.Prelude.{Vec, ◌≡◌, ◌⊎◌, ℕ, ◌<◌, Bool, List, map, Result, Ok, Err}
use Rattle.std.specs.declared.alloc.Global.{Global}
use Rattle.std.specs.List.{All, range_with_len}
use Rattle.convoy_toml.specs.declared.asked.Asked.{Asked}
use Rattle.convoy_branch.specs.Options.{Settings}
use Rattle.convoy_tables.specs.declared.format.Format.{Format}
use Rattle.convoy_tables.specs.Tables.{Table}
use Rattle.convoy_commands.specs.declared.fault.Fault.{Fault}
use Rattle.convoy_commands.specs.declared.fault.Fault.TheVariants as faults
use Rattle.convoy_commands.specs.Searches.{IsFaultyBy}
use Rattle.convoy_case_survey.specs.CaseSurveys.{IsSurveyedCase, case_asked, case_columns, case_rows}
use Rattle.convoy_case_survey.specs.declared.surveyed_case.SurveyedCase.{SurveyedCase}

-- the table of a case
abbrev pub case_table : Bool → SurveyedCase → Table
case_table with_ceilings case = record { columns = case_columns with_ceilings case; rows = case_rows with_ceilings case }

-- the survey of the case of that number, or why there is none
abbrev pub SurveysCase : Format → Asked → ℕ → Settings → List ℕ → Result SurveyedCase Fault → Type 0
SurveysCase format asked number settings text (Ok case) = (case.number ≡ number) × IsSurveyedCase format asked settings text case
SurveysCase format asked number settings text (Err fault) = IsFaultyBy (case_asked asked number) text fault ⊎ (fault ≡ faults.Memory)

-- They are the surveys of so many cases, the first ones.
pub record AreSurveyedCases (format : Format) (asked : Asked) (count : ℕ) (settings : Settings) (text : List ℕ) (cases : List SurveyedCase) : Type 0 where
  pub all : map (λ case. case.number) cases ≡ range_with_len 0 count
  pub surveyed : All (IsSurveyedCase format asked settings text) cases

-- Of one of so many cases there is none.
pub record IsOneFaulty (asked : Asked) (count : ℕ) (text : List ℕ) (fault : Fault) : Type 0 where
  pub number : ℕ
  pub known : number < count
  pub faulty : IsFaultyBy (case_asked asked number) text fault

-- the surveys of so many cases, or why there are none
abbrev pub SurveysAll : Format → Asked → ℕ → Settings → List ℕ → Result (Vec SurveyedCase Global) Fault → Type 0
SurveysAll format asked count settings text (Ok cases) = AreSurveyedCases format asked count settings text cases.items
SurveysAll format asked count settings text (Err fault) = IsOneFaulty asked count text fault ⊎ (fault ≡ faults.Memory)
