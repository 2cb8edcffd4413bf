-- What is written of a ceiling, from what its calls answered.
use Rattle.std.proofs.Common.{◌≡◌, ◌≤◌, ◌==◌, ℕ, List, Option, unwrap_or, Ok, if◌then◌else◌, sym, subst, ap, ◌∙◌}
use Rattle.convoy_draft.specs.declared.duration.TimeUnit.{TimeUnit}
use Rattle.convoy_times.specs.Measures.{measure_by}
use Rattle.convoy_times.specs.declared.measure.Measure.{Measure}
use Rattle.convoy_scenario.specs.Scenario.{Scenario}
use Rattle.convoy_scenario.specs.WellFormed.{IsScenario}
use Rattle.convoy_toml.specs.declared.asked.Asked.{Asked}
use Rattle.convoy_toml.specs.Reading.{deadlines_of_text, scenario_of_text_by, unit_written}
use Rattle.convoy_sim.specs.Record.{Record}
use Rattle.convoy_ceiling.specs.Ceiling.{IsUpperInTraffic, ceiling_of}
use Rattle.convoy_ceiling.specs.Finding.{IsFound}
use Rattle.convoy_outages.specs.declared.outage.Outage.{Outage}
use Rattle.convoy_outages.specs.Spans.{IsThrough}
use Rattle.convoy_commands.specs.declared.done.Done.{Done}
use Rattle.convoy_commands.specs.declared.done.Done.TheVariants.{Fine, Open}
use Rattle.convoy_commands.specs.Ceilings.{IsCeilingTold, ceiling_text}
use Rattle.convoy_commands.specs.Measured.{measure_of_text}
use Rattle.convoy_commands.specs.Verdicts.{deadline_at, judged, target_deadline}

-- in which unit the times of a text are told
measured_by : (unit in_text : Option TimeUnit) (text : List ℕ) (plan : Scenario) (measure : Option Measure) →
    in_text ≡ unit_written text → measure ≡ measure_by unit in_text plan → measure ≡ measure_of_text unit text plan
measured_by unit in_text text plan measure is made = made ∙ ap (λ (u : Option TimeUnit). measure_by unit u plan) is

-- the deadline of the target of a text
pub deadline_in : (asked : Asked) (text : List ℕ) (plan : Scenario) (deadlines : List (Option ℕ)) (message : ℕ) (deadline : Option ℕ) →
    deadlines ≡ deadlines_of_text asked text → message ≡ plan.target_message → deadline ≡ deadline_at deadlines message →
    deadline ≡ target_deadline asked text plan
deadline_in asked text plan deadlines message deadline are is found = rw (are, is) at found

-- the ceiling through outages of the target of a scenario
through_target : (outage : Option Outage) (plan : Scenario) (message group : ℕ) (through : Option ℕ) → message ≡ plan.target_message → group ≡ plan.target_group →
    IsThrough outage plan message group through → IsThrough outage plan plan.target_message plan.target_group through
through_target outage plan message group through of_message of_group is =
    subst (λ (g : ℕ). IsThrough outage plan plan.target_message g through) of_group (subst (λ (m : ℕ). IsThrough outage plan m group through) of_message is)

pub ceiling_told : (outage : Option Outage) (asked : Asked) (unit in_text : Option TimeUnit) (measure : Option Measure) (deadline through : Option ℕ) (text out : List ℕ)
    (plan made : Scenario) (found : Record) (message group ceiling latency most : ℕ) (end done : Done)
    → scenario_of_text_by asked text ≡ Ok plan → in_text ≡ unit_written text → measure ≡ measure_by unit in_text plan → deadline ≡ target_deadline asked text plan
    → IsScenario plan → IsUpperInTraffic plan plan.target_message plan.target_group (ceiling_of plan)
    → message ≡ plan.target_message → group ≡ plan.target_group → IsThrough outage plan message group through
    → IsFound plan made found → found.latency ≤ ceiling_of plan → ceiling ≡ ceiling_of plan → latency ≡ found.latency → most ≡ unwrap_or through ceiling
    → out ≡ ceiling_text measure deadline through plan found → end ≡ (if latency == ceiling then Fine else Open) → done ≡ judged deadline latency most end
    → IsCeilingTold outage asked unit text out done
ceiling_told outage asked unit in_text measure deadline through text out plan made found message group ceiling latency most end done read written_in measured within lawful safe of_message of_group is_through is no_greater of_plan attained greatest written ends judged_so = record {
  scenario = plan;
  read = read;
  lawful = lawful;
  safe = safe;
  through = through;
  safe_through = through_target outage plan message group through of_message of_group is_through;
  traffic = found;
  found = subst (λ (t : Scenario). IsFound plan t found) (sym is.of_traffic) is;
  within = no_greater;
  written = rw (measured_by unit in_text text plan measure written_in measured, within) at written;
  ended = rw (ends, greatest, attained, of_plan, within) at judged_so;
}
