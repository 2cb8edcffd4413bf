-- What is written of a latency through outages, from what its calls answered.
use Rattle.std.proofs.Common.{◌≡◌, ◌≤◌, ℕ, Bool, List, Option, Some, Ok, ap, subst, ◌∙◌}
use Rattle.convoy_draft.specs.declared.duration.TimeUnit.{TimeUnit}
use Rattle.convoy_scenario.specs.Scenario.{Scenario}
use Rattle.convoy_scenario.specs.WellFormed.{IsScenario}
use Rattle.convoy_times.specs.Measures.{measure_by}
use Rattle.convoy_times.specs.declared.measure.Measure.{Measure}
use Rattle.convoy_toml.specs.declared.asked.Asked.{Asked}
use Rattle.convoy_toml.specs.declared.outside.LinkShare.{LinkShare}
use Rattle.convoy_toml.specs.Reading.{deadlines_of_text, scenario_of_text_by, shares_of_text, unit_written}
use Rattle.convoy_outages.specs.declared.outage.Outage.{Outage}
use Rattle.convoy_outage_runs.specs.OutageRuns.{IsUpperOfRuns}
use Rattle.convoy_outside.specs.Sums.{outside_told}
use Rattle.convoy_branch.specs.Options.{Settings}
use Rattle.convoy_commands.specs.declared.done.Done.{Done}
use Rattle.convoy_commands.specs.Measured.{measure_of_text}
use Rattle.convoy_commands.specs.Outsides.{outside_of_text}
use Rattle.convoy_commands.specs.Verdicts.{deadline_at, judged, target_deadline}
use Rattle.convoy_commands.proofs.CeilingTexts.{deadline_in}
use Rattle.convoy_survey.specs.declared.finding.Finding.{Finding}
use Rattle.convoy_survey.specs.Findings.{IsFinding, least_of}
use Rattle.convoy_outage_answers.specs.Latencies.{IsLatencyThrough, LastsFor, finding_end, latency_through_text, outage_ceiling_of}

pub latency_told : (with_ceiling : Bool) (outage : Outage) (asked : Asked) (settings : Settings) (in_text : Option TimeUnit) (measure : Option Measure)
    (deadline outside : Option ℕ) (deadlines : List (Option ℕ)) (shares : List LinkShare) (text out : List ℕ) (plan same : Scenario)
    (message span least through : ℕ) (finding : Finding) (end done : Done)
    → scenario_of_text_by asked text ≡ Ok plan → in_text ≡ unit_written text → deadlines ≡ deadlines_of_text asked text → shares ≡ shares_of_text text
    → measure ≡ measure_by settings.unit in_text plan → message ≡ plan.target_message → deadline ≡ deadline_at deadlines message
    → LastsFor outage plan span → same ≡ plan → IsScenario same → outside ≡ outside_told shares same
    → IsFinding settings same finding → least_of finding ≡ Some least
    → IsUpperOfRuns span same through → through ≤ outage_ceiling_of span same
    → out ≡ latency_through_text with_ceiling measure deadline outside same finding least through
    → end ≡ finding_end finding → done ≡ judged deadline least through end
    → IsLatencyThrough with_ceiling outage asked settings text done out
latency_told with_ceiling outage asked settings in_text measure deadline outside deadlines shares text out plan same message span least through finding end done read written_in are tell measured of_message within lasting is lawful outside_is found least_is safe low written ends judged_so = record {
  scenario = plan;
  span = span;
  finding = finding;
  least = least;
  through = through;
  read = read;
  lawful = subst IsScenario is lawful;
  lasting = lasting;
  found = subst (λ (s : Scenario). IsFinding settings s finding) is found;
  least_found = least_is;
  safe = subst (λ (s : Scenario). IsUpperOfRuns span s through) is safe;
  low = subst (λ (s : Scenario). through ≤ outage_ceiling_of span s) is low;
  written = rw (on_measure, on_deadline, on_outside, is) at written;
  ends = rw (ends, on_deadline) at judged_so;
} where
  on_measure : measure ≡ measure_of_text settings.unit text plan
  on_measure = measured ∙ ap (λ (u : Option TimeUnit). measure_by settings.unit u plan) written_in

  on_deadline : deadline ≡ target_deadline asked text plan
  on_deadline = deadline_in asked text plan deadlines message deadline are of_message within

  on_outside : outside ≡ outside_of_text text plan
  on_outside = outside_is ∙ ap (λ (s : Scenario). outside_told shares s) is ∙ ap (λ (told : List LinkShare). outside_told told plan) tell
