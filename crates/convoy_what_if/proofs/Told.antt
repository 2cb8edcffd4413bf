-- What is written of the changes that were tried.
use Rattle.std.proofs.Common.{◌≡◌, ℕ, Bool, List, Option, Ok, refl, subst, ◌∙◌}
use Rattle.convoy_draft.specs.declared.duration.TimeUnit.{TimeUnit}
use Rattle.convoy_scenario.specs.Scenario.{Scenario}
use Rattle.convoy_scenario.specs.WellFormed.{IsScenario}
use Rattle.convoy_times.specs.declared.measure.Measure.{Measure}
use Rattle.convoy_times.specs.Measures.{measure_by}
use Rattle.convoy_toml.specs.declared.asked.Asked.{Asked}
use Rattle.convoy_toml.specs.Reading.{deadlines_of_text, scenario_of_text_by, unit_written}
use Rattle.convoy_branch.specs.Options.{Settings}
use Rattle.convoy_tables.specs.declared.format.Format.{Format}
use Rattle.convoy_tables.specs.Formats.{table_text}
use Rattle.convoy_commands.specs.declared.done.Done.{Done}
use Rattle.convoy_commands.specs.Verdicts.{deadline_at}
use Rattle.convoy_survey.specs.declared.times.Times.{Times}
use Rattle.convoy_survey.specs.Times.{times_of}
use Rattle.convoy_what_if.specs.Cells.{table_of}
use Rattle.convoy_what_if.specs.Changes.{changes_of}
use Rattle.convoy_what_if.specs.declared.tried.Tried.{Tried}
use Rattle.convoy_what_if.specs.Orders.{AreTried}
use Rattle.convoy_what_if.specs.WhatIf.{IsWhatIf, end_of}

pub told : (format : Format) (shows_all : Bool) (asked : Asked) (settings : Settings) (text out : List ℕ) (end : Done) (scenario instance last : Scenario)
    (rows shown ended : List Tried) (unit written : Option TimeUnit) (measure : Option Measure) (times : Times) (deadlines : List (Option ℕ)) (target : ℕ) (deadline : Option ℕ) →
    scenario_of_text_by asked text ≡ Ok scenario → instance ≡ scenario → last ≡ instance → IsScenario last → AreTried settings instance (changes_of instance) rows →
    shown ≡ rows → ended ≡ rows → unit ≡ settings.unit → written ≡ unit_written text → measure ≡ measure_by unit written last → times ≡ times_of format measure →
    deadlines ≡ deadlines_of_text asked text → target ≡ scenario.target_message → deadline ≡ deadline_at deadlines target →
    out ≡ table_text format (table_of times deadline shows_all last shown) → end ≡ end_of deadline ended → IsWhatIf format shows_all asked settings text end out
told format shows_all asked settings text out end scenario instance last rows shown ended unit written measure times deadlines target deadline
    read is_instance is_last lawful tried is_shown is_ended is_unit is_written is_measure is_times is_deadlines is_target is_deadline is_out is_end = record {
      scenario = scenario;
      rows = rows;
      read = read;
      lawful = subst IsScenario (is_last ∙ is_instance) lawful;
      tried = subst (λ (s : Scenario). AreTried settings s (changes_of s) rows) is_instance tried;
      written = rw (is_out, is_times, is_measure, is_unit, is_written, is_last, is_instance, is_shown, is_deadline, is_deadlines, is_target) refl;
      ends = rw (is_end, is_ended, is_deadline, is_deadlines, is_target) refl;
    }
