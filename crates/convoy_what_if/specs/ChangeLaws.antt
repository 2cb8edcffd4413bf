-- What is proved of the rows. Each is the one clause of the function of its name in the crate's module `change_laws`.
use Rattle.std.specs.Prelude.{◌≡◌, ℕ, false, List, map, ◌++◌, Ok}
use Rattle.std.specs.List.{All, AllPairs}
use Rattle.std.specs.List.Sorted.{IsPermutation}
use Rattle.convoy_scenario.specs.Scenario.{Scenario}
use Rattle.convoy_toml.specs.declared.asked.Asked.{Asked}
use Rattle.convoy_toml.specs.Reading.{scenario_of_text_by}
use Rattle.convoy_branch.specs.Options.{Settings}
use Rattle.convoy_commands.specs.Measured.{measure_of_text}
use Rattle.convoy_commands.specs.declared.done.Done.{Done}
use Rattle.convoy_commands.specs.Outsides.{outside_of_text, outside_text}
use Rattle.convoy_commands.specs.ReplyLines.{greatest_line}
use Rattle.convoy_commands.specs.Searches.{IsGreatestTold}
use Rattle.convoy_commands.specs.Verdicts.{target_deadline, verdict_text}
use Rattle.convoy_survey.specs.declared.finding.Cause.{Cause}
use Rattle.convoy_survey.specs.declared.finding.Finding.TheVariants.{Greatest}
use Rattle.convoy_survey.specs.Findings.{Encloses, least_of, most_of}
use Rattle.convoy_what_if.specs.declared.kinds.Change.{Change}
use Rattle.convoy_what_if.specs.Changes.{changed}
use Rattle.convoy_what_if.specs.declared.tried.Tried.{Tried}
use Rattle.convoy_what_if.specs.Orders.{AreTried, saves_more}
use Rattle.convoy_what_if.specs.Tries.{IsTried}

-- These changes, and no others, stand in the rows, in some order; each row tells what was found of its change; and no row saves more than one before it.
pub record AreInOrder (settings : Settings) (scenario : Scenario) (changes : List Change) (rows : List Tried) : Type 0 where
  pub same_changes : IsPermutation changes (map (λ row. row.change) rows)
  pub all_tried : All (IsTried settings scenario) rows
  pub none_saves_more : AllPairs (λ row later. saves_more later row ≡ false) rows

-- rows that are tried and placed one by one are in order
abbrev pub RowsAreInOrder : Type 0
RowsAreInOrder =
    (settings : Settings) (scenario : Scenario) (changes : List Change) (rows : List Tried) →
    AreTried settings scenario changes rows → AreInOrder settings scenario changes rows

-- Of a text of the scenario that a row's change makes, `latency` answers the row's number where it tells a greatest latency, by whatever settings and whoever asked, below it how that keeps the deadline of the target, if it has one, and how sure the ranges are, if its links tell that.
abbrev pub RowsAreLatencies : Type 0
RowsAreLatencies =
    (settings other : Settings) (asked : Asked) (scenario another : Scenario) (row : Tried) (latency nodes : ℕ) (cause : Cause) (text out : List ℕ) (end : Done) →
    IsTried settings scenario row → row.finding ≡ Greatest latency cause nodes → changed scenario row.change ≡ Ok another →
    scenario_of_text_by asked text ≡ Ok another → IsGreatestTold asked other text end out →
    out
    ≡ greatest_line (measure_of_text other.unit text another) latency
    ++ (verdict_text (measure_of_text other.unit text another) (target_deadline asked text another) latency latency
    ++ outside_text (outside_of_text text another))

-- The two numbers of a row, `least` and `most`, enclose the greatest latency of the scenario that its change makes, whether or not the search ended.
abbrev pub RowsEnclose : Type 0
RowsEnclose =
    (settings : Settings) (scenario another : Scenario) (row : Tried) → IsTried settings scenario row → changed scenario row.change ≡ Ok another →
    Encloses another (least_of row.finding) (most_of row.finding)
