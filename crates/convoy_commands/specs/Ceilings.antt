-- What the command `ceiling` writes.
use Rattle.std.specs.Prelude.{◌≡◌, ◌⊎◌, ℕ, ◌≤◌, ◌==◌, if◌then◌else◌, List, [], ◌++◌, Option, Some, None, unwrap_or, Ok, Err, codes}
use Rattle.convoy_draft.specs.declared.duration.TimeUnit.{TimeUnit}
use Rattle.convoy_scenario.specs.Scenario.{Scenario}
use Rattle.convoy_scenario.specs.WellFormed.{IsScenario}
use Rattle.convoy_toml.specs.declared.asked.Asked.{Asked}
use Rattle.convoy_toml.specs.Reading.{scenario_of_text_by}
use Rattle.convoy_toml_writer.specs.Text.{toml_text}
use Rattle.convoy_times.specs.declared.measure.Measure.{Measure}
use Rattle.convoy_sim.specs.Record.{Record}
use Rattle.convoy_ceiling.specs.Ceiling.{IsUpperInTraffic, ceiling_of}
use Rattle.convoy_ceiling.specs.Finding.{IsFound}
use Rattle.convoy_outages.specs.declared.outage.Outage.{Outage}
use Rattle.convoy_outages.specs.declared.outage.OutageFault.{OutageFault}
use Rattle.convoy_outages.specs.Spans.{IsThrough, span_asked}
use Rattle.convoy_commands.specs.declared.done.Done.{Done}
use Rattle.convoy_commands.specs.declared.done.Done.TheVariants.{Fine, Open}
use Rattle.convoy_commands.specs.declared.fault.Fault.{Fault}
use Rattle.convoy_commands.specs.declared.fault.Fault.TheVariants as faults
use Rattle.convoy_commands.specs.ReplyLines.{attained_line, ticks_line}
use Rattle.convoy_commands.specs.Measured.{measure_of_text}
use Rattle.convoy_commands.specs.Replies.{Rule}
use Rattle.convoy_commands.specs.Searches.{IsFaultyBy}
use Rattle.convoy_commands.specs.Verdicts.{judged, target_deadline, verdict_text}

-- a ceiling
abbrev pub ceiling_line : Option Measure → ℕ → List ℕ
ceiling_line measure ceiling = ticks_line (codes "ceiling") measure ceiling

-- a ceiling through outages, where these are asked for
abbrev pub through_line : Option Measure → Option ℕ → List ℕ
through_line measure None = []
through_line measure (Some ceiling) = ticks_line (codes "outage-ceiling") measure ceiling

-- the ceiling of a scenario, that through outages where these are asked for, the latency that was found in traffic, how the latencies in traffic keep the deadline where there is one, through outages where these are asked for, and that traffic with its schedule as a scenario's text
abbrev pub ceiling_text : Option Measure → Option ℕ → Option ℕ → Scenario → Record → List ℕ
ceiling_text measure deadline through scenario found =
    ceiling_line measure (ceiling_of scenario)
    ++ (through_line measure through
    ++ (attained_line found.latency
    ++ (verdict_text measure deadline found.latency (unwrap_or through (ceiling_of scenario)) ++ toml_text found.scenario found.schedule)))

-- how the command ends: as the verdict says where there is a deadline, and else well where the latency is the ceiling
abbrev pub ceiling_ends : Option ℕ → Option ℕ → Scenario → Record → Done
ceiling_ends deadline through scenario found =
    judged deadline found.latency (unwrap_or through (ceiling_of scenario)) (if found.latency == ceiling_of scenario then Fine else Open)

-- What is written is the ceiling of the scenario that was read, above which no message of the target's kind has a latency in any traffic of the scenario's kinds; the ceiling through outages that are asked for, above which none has one where packets keep the links but for such outages; and traffic of these kinds, in which the same is asked, with a schedule that has the latency that is told.
pub record IsCeilingTold (outage : Option Outage) (asked : Asked) (unit : Option TimeUnit) (text out : List ℕ) (done : Done) : Type 0 where
  pub scenario : Scenario
  pub read : scenario_of_text_by asked text ≡ Ok scenario
  pub lawful : IsScenario scenario
  pub safe : IsUpperInTraffic scenario scenario.target_message scenario.target_group (ceiling_of scenario)
  pub through : Option ℕ
  pub safe_through : IsThrough outage scenario scenario.target_message scenario.target_group through
  pub traffic : Record
  pub found : IsFound scenario traffic.scenario traffic
  pub within : traffic.latency ≤ ceiling_of scenario
  pub written : out ≡ ceiling_text (measure_of_text unit text scenario) (target_deadline asked text scenario) through scenario traffic
  pub ended : done ≡ ceiling_ends (target_deadline asked text scenario) through scenario traffic

-- The scenario was read, and it can't be told what outages that last so long cost it.
pub record IsOutageRefused (outage : Option Outage) (asked : Asked) (text : List ℕ) (fault : Fault) : Type 0 where
  pub scenario : Scenario
  pub read : scenario_of_text_by asked text ≡ Ok scenario
  pub cause : OutageFault
  pub refused : span_asked outage scenario ≡ Err cause
  pub told : fault ≡ faults.Outage cause

-- what `ceiling` may answer
abbrev pub CeilingSays : Option Outage → Asked → Option TimeUnit → Rule
CeilingSays outage asked unit text (Ok (done, out)) = IsCeilingTold outage asked unit text out done
CeilingSays outage asked unit text (Err fault) = IsFaultyBy asked text fault ⊎ IsOutageRefused outage asked text fault
