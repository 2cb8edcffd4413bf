-- What `survey --without` writes: what would become of the greatest latency with each change of one thing: a message left out, or a link at its least or at its most.
use Rattle.std.specs.Prelude.{◌≡◌, ◌⊎◌, ℕ, Bool, List, Option, Ok, Err}
use Rattle.std.specs.List.{list_any}
use Rattle.convoy_scenario.specs.Scenario.{Scenario}
use Rattle.convoy_scenario.specs.WellFormed.{IsScenario}
use Rattle.convoy_toml.specs.declared.asked.Asked.{Asked}
use Rattle.convoy_toml.specs.Reading.{scenario_of_text_by}
use Rattle.convoy_branch.specs.Options.{Settings}
use Rattle.convoy_tables.specs.declared.format.Format.{Format}
use Rattle.convoy_tables.specs.Formats.{table_text}
use Rattle.convoy_commands.specs.declared.fault.Fault.{Fault}
use Rattle.convoy_commands.specs.declared.done.Done.{Done}
use Rattle.convoy_commands.specs.Measured.{measure_of_text}
use Rattle.convoy_commands.specs.Replies.{Rule}
use Rattle.convoy_commands.specs.Ends.{end_by}
use Rattle.convoy_commands.specs.Searches.{IsFaultyBy}
use Rattle.convoy_commands.specs.Verdicts.{target_deadline}
use Rattle.convoy_survey.specs.Findings.{is_fault}
use Rattle.convoy_survey.specs.Judgements.{is_finding_beyond, is_finding_open}
use Rattle.convoy_survey.specs.Times.{times_of}
use Rattle.convoy_what_if.specs.Changes.{changes_of}
use Rattle.convoy_what_if.specs.declared.tried.Tried.{Tried}
use Rattle.convoy_what_if.specs.Cells.{table_of}
use Rattle.convoy_what_if.specs.Orders.{AreTried}
use Rattle.convoy_what_if.specs.Tries.{HasBroken}

-- how it ends with these rows: one beyond the deadline of the target comes before a fault, and that before one that is open
abbrev pub end_of : Option ℕ → List Tried → Done
end_of deadline rows =
    end_by (list_any (λ row. is_finding_beyond deadline row.finding) rows) (list_any (λ row. is_fault row.finding) rows)
    (list_any (λ row. is_finding_open deadline row.finding) rows)

-- THE HEADLINE. What is written is the table of all changes of the scenario that was read, where that is asked, each tried, in this format, judged by the deadline of its target, with those that change nothing each in a row or in one line together, and the end is told by all rows.
pub record IsWhatIf (format : Format) (shows_all : Bool) (asked : Asked) (settings : Settings) (text : List ℕ) (end : Done) (out : List ℕ) : Type 0 where
  pub scenario : Scenario
  pub rows : List Tried
  pub read : scenario_of_text_by asked text ≡ Ok scenario
  pub lawful : IsScenario scenario
  pub tried : AreTried settings scenario (changes_of scenario) rows
  pub written : out
      ≡ table_text format
      (table_of (times_of format (measure_of_text settings.unit text scenario)) (target_deadline asked text scenario) shows_all scenario rows)
  pub ends : end ≡ end_of (target_deadline asked text scenario) rows

-- The text is that of a scenario of which some change makes none, for the cause that the fault tells.
pub record IsBroken (asked : Asked) (text : List ℕ) (fault : Fault) : Type 0 where
  pub scenario : Scenario
  pub read : scenario_of_text_by asked text ≡ Ok scenario
  pub broken : HasBroken scenario (changes_of scenario) fault

-- what may be answered for a text
abbrev pub WhatIfSays : Format → Bool → Asked → Settings → Rule
WhatIfSays format shows_all asked settings text (Ok (end, out)) = IsWhatIf format shows_all asked settings text end out
WhatIfSays format shows_all asked settings text (Err fault) = IsFaultyBy asked text fault ⊎ IsBroken asked text fault
