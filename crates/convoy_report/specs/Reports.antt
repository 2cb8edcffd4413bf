-- What a report tells: what the other commands answer for the same text.
use Rattle.std.specs.Prelude.{◌≡◌, ◌≢◌, ◌⊎◌, ℕ, ◌==◌, Bool, false, ◌&&◌, not, List, ◌∷◌, filter, map, take, Option, Some, None, option_map, Result, Ok, Err, string_bytes}
use Rattle.std.specs.List.{All}
use Rattle.hex.specs.Hex.{encode_lower}
use Rattle.sha2.specs.Sha256.{sha256}
use Rattle.convoy_draft.specs.declared.duration.TimeUnit.{TimeUnit}
use Rattle.convoy_scenario.specs.Scenario.{Scenario, group_name_at, message_at}
use Rattle.convoy_scenario.specs.WellFormed.{IsScenario}
use Rattle.convoy_toml.specs.declared.asked.Asked.{Asked}
use Rattle.convoy_toml.specs.declared.target.TargetKey.{TargetKey}
use Rattle.convoy_toml.specs.declared.target.TargetKey.TheVariants.{Named}
use Rattle.convoy_toml.specs.Around.{span_asked}
use Rattle.convoy_toml.specs.Reading.{deadlines_of_text, scenario_of_text_by}
use Rattle.convoy_branch.specs.Options.{Settings}
use Rattle.convoy_tables.specs.declared.format.Format.TheVariants.{Html}
use Rattle.convoy_commands.specs.declared.asking.Asking.{Asking}
use Rattle.convoy_commands.specs.declared.asking.Asking.TheVariants.{Explain, Draw}
use Rattle.convoy_commands.specs.declared.done.Done.{Done}
use Rattle.convoy_commands.specs.declared.done.Done.TheVariants.{Fine}
use Rattle.convoy_commands.specs.declared.fault.Fault.{Fault}
use Rattle.convoy_commands.specs.declared.fault.Fault.TheVariants.{Memory}
use Rattle.convoy_commands.specs.declared.telling.Telling.TheVariants.{Toml}
use Rattle.convoy_commands.specs.Asks.{AskSays}
use Rattle.convoy_commands.specs.Measured.{measure_of_text}
use Rattle.convoy_commands.specs.Replies.{Rule}
use Rattle.convoy_commands.specs.Searches.{AnalyseSays, IsFaultyBy}
use Rattle.convoy_commands.specs.Tells.{TellSays}
use Rattle.convoy_survey.specs.declared.finding.Surveyed.{Surveyed}
use Rattle.convoy_survey.specs.Findings.{target_of}
use Rattle.convoy_survey.specs.Surveys.{AreSurveyed, end_of, is_row_beyond}
use Rattle.convoy_survey.specs.Times.{times_of}
use Rattle.convoy_what_if.specs.WhatIf.{IsBroken, WhatIfSays}
use Rattle.convoy_report.specs.declared.choosing.TheConstants.{MOST_RUNS}
use Rattle.convoy_report.specs.declared.report.Report.{Report}
use Rattle.convoy_report.specs.declared.report.Run.{Run}
use Rattle.convoy_report.specs.declared.report.Shown.{Shown}
use Rattle.convoy_report.specs.declared.report.Shown.TheVariants.{Explained, Found}
use Rattle.convoy_report.specs.Pages.{page_text}

-- WHICH RUNS ARE SHOWN
-- the row is that of the scenario's target
abbrev pub is_of_target : Scenario → Surveyed → Bool
is_of_target scenario row = (row.message == scenario.target_message) && (row.group == scenario.target_group)

-- its run is shown besides that of the target: it is beyond its deadline
abbrev pub is_shown_besides : Scenario → List (Option ℕ) → Surveyed → Bool
is_shown_besides scenario deadlines row = is_row_beyond deadlines row && not (is_of_target scenario row)

-- the target, and then each row beyond its deadline, but no more than so many
abbrev pub shown_targets : Scenario → List (Option ℕ) → List Surveyed → List (ℕ × ℕ)
shown_targets scenario deadlines rows =
    take MOST_RUNS ((scenario.target_message, scenario.target_group) ∷ map target_of (filter (is_shown_besides scenario deadlines) rows))

-- WHAT IS SHOWN OF A RUN
-- the same is asked, of that message at that group
abbrev pub at_target : Asked → Scenario → ℕ → ℕ → Asked
at_target asked scenario m g = record asked { target = Named (message_at scenario m).name (group_name_at scenario g) }

-- What was found is no certificate that is accepted: one of `explain` and `draw` says so.
pub record IsNotAccepted (found : List ℕ) : Type 0 where
  pub asking : Asking
  pub end : Done
  pub out : List ℕ
  pub said : AskSays asking found (Ok (end, out))
  pub other : end ≢ Fine

-- what `explain` and `draw` say of the certificate that was found; or what was found, where that is no certificate
abbrev pub IsShown : Option TimeUnit → List ℕ → Shown → Type 0
IsShown unit found (Explained explanation image) =
    AskSays (Explain unit) found (Ok (Fine, explanation.items)) × AskSays (Draw unit) found (Ok (Fine, image.items))
IsShown unit found (Found text) = (text.items ≡ found) × IsNotAccepted found

-- It is a run of its message at its group: what `analyse` answers for that target, and what is shown of it.
pub record IsRunOf (asked : Asked) (settings : Settings) (text : List ℕ) (scenario : Scenario) (run : Run) : Type 0 where
  pub end : Done
  pub found : List ℕ
  pub analysed : AnalyseSays (at_target asked scenario run.message run.group) settings text (Ok (end, found))
  pub shown : IsShown settings.unit found run.shown

-- the message and the group of a run
abbrev pub place_of : Run → ℕ × ℕ
place_of run = (run.message, run.group)

-- they are runs of these targets, in their order
abbrev pub AreRunsOf : Asked → Settings → List ℕ → Scenario → List (ℕ × ℕ) → List Run → Type 0
AreRunsOf asked settings text scenario targets runs = (map place_of runs ≡ targets) × All (IsRunOf asked settings text scenario) runs

-- THE DIGEST
-- What `scenario` writes for the text has this digest.
pub record IsDigest (text digest : List ℕ) : Type 0 where
  pub end : Done
  pub canonical : List ℕ
  pub told : TellSays Toml text (Ok (end, canonical))
  pub is : digest ≡ encode_lower (sha256 canonical)

-- it is, where there is one; else `scenario` answers with a fault
abbrev pub IsDigestOf : List ℕ → Option (List ℕ) → Type 0
IsDigestOf text (Some digest) = IsDigest text digest
IsDigestOf text None = (fault : Fault) × TellSays Toml text (Err fault)

-- WHAT IT TELLS
-- What a report tells is what the commands answer for the text, where that is asked: its rows are those of `survey`, each around its own target where all is asked so, its runs those of `analyse`, of which `explain` and `draw` tell, its changes those of `survey --without`, and its digest that of what `scenario` writes.
pub record IsTold (asked : Asked) (settings : Settings) (text : List ℕ) (report : Report) : Type 0 where
  pub read : scenario_of_text_by asked text ≡ Ok report.scenario
  pub lawful : IsScenario report.scenario
  pub deadlines : report.deadlines.items ≡ deadlines_of_text asked text
  pub times : report.times ≡ times_of Html (measure_of_text settings.unit text report.scenario)
  pub span : report.span ≡ span_asked asked.around report.scenario
  pub surveyed : AreSurveyed settings report.span report.scenario report.rows.items
  pub runs :
      AreRunsOf asked settings text report.scenario
      (shown_targets report.scenario report.deadlines.items report.rows.items) report.runs.items
  pub change_end : Done
  pub changed : WhatIfSays Html false asked settings text (Ok (change_end, report.changes.items))
  pub digest : IsDigestOf text (option_map string_bytes report.digest)

-- THE HEADLINE. What is written is the page of a report that tells what the other commands answer, with a map of its system of which nothing is promised, and it ends as the survey does.
pub record IsReport (asked : Asked) (settings : Settings) (text : List ℕ) (end : Done) (out : List ℕ) : Type 0 where
  pub report : Report
  pub map : List ℕ
  pub told : IsTold asked settings text report
  pub written : out ≡ page_text report map
  pub ends : end ≡ end_of report.deadlines.items report.rows.items

-- The text has this fault, where the same is asked of another target.
pub record IsFaultyAt (asked : Asked) (text : List ℕ) (fault : Fault) : Type 0 where
  pub target : TargetKey
  pub faulty : IsFaultyBy (record asked { target = target }) text fault

-- the text has a fault for which there is no report: where that is asked, or the same of the target of a run, or with a change
abbrev pub IsUntold : Asked → List ℕ → Fault → Type 0
IsUntold asked text fault = IsFaultyBy asked text fault ⊎ (IsFaultyAt asked text fault ⊎ IsBroken asked text fault)

-- what a report may answer for a text
abbrev pub ReportSays : Asked → Settings → Rule
ReportSays asked settings text (Ok (end, out)) = IsReport asked settings text end out
ReportSays asked settings text (Err fault) = IsUntold asked text fault
