-- What is answered for the links of a trace.
use Rattle.std.specs.Prelude.{ℕ, Bool, if◌then◌else◌, List, Option, Some, None, Result, Ok, Err}
use Rattle.std.specs.Result.{result_map_both}
use Rattle.convoy_draft.specs.declared.duration.TimeUnit.{TimeUnit}
use Rattle.convoy_scenario.specs.Scenario.{Scenario}
use Rattle.convoy_ranges.specs.declared.asked.RangeRules.{RangeRules}
use Rattle.convoy_tables.specs.declared.format.Format.{Format}
use Rattle.convoy_traces.specs.declared.fault.TraceFault.{TraceFault}
use Rattle.convoy_trace_ranges.specs.Answers.{trace_ranges_text}
use Rattle.convoy_trace_ranges.specs.Beside.{beside_told}
use Rattle.convoy_trace_ranges.specs.LinkTables.{trace_table_text}
use Rattle.convoy_commands.specs.declared.done.Done.{Done}
use Rattle.convoy_commands.specs.declared.done.Done.TheVariants.{Fine, Departs}
use Rattle.convoy_commands.specs.declared.fault.Fault.{Fault}
use Rattle.convoy_commands.specs.Faults.{told_of_trace}
use Rattle.convoy_commands.specs.Replies.{Answers, Reply, Rule, fine}
use Rattle.convoy_text_answers.specs.FitsAnswers.{NoScenarioSays}

-- a text, or why there is none, as a command tells it
abbrev pub links_told : Result (List ℕ) TraceFault → Result (List ℕ) Fault
links_told text = result_map_both (λ links. links) told_of_trace text

-- what may be answered for a trace by these rules: the ranges of its links
abbrev pub TraceRangesSay : RangeRules → TimeUnit → Rule
TraceRangesSay rules unit = Answers (λ text. fine (links_told (trace_ranges_text rules unit text)))

-- what may be answered for a trace as a table: its links
abbrev pub TraceTableSays : Format → TimeUnit → Rule
TraceTableSays format unit = Answers (λ text. fine (links_told (trace_table_text format unit text)))

-- how it ends, by whether some packet was out of its range
abbrev pub end_of_beside : Bool → Done
end_of_beside left = if left then Departs else Fine

-- what is told of a trace beside a scenario, as a reply
abbrev pub beside_reply : Result (Bool × List ℕ) TraceFault → Reply
beside_reply (Ok (left, out)) = Ok (end_of_beside left, out)
beside_reply (Err cause) = Err (told_of_trace cause)

-- what may be answered for a trace where that scenario is wanted
abbrev pub BesideSays : Scenario → Format → Option TimeUnit → Rule
BesideSays scenario format unit = Answers (λ text. beside_reply (beside_told format unit scenario text))

abbrev pub beside_says : Option Scenario → Format → Option TimeUnit → Rule
beside_says None format unit = NoScenarioSays
beside_says (Some scenario) format unit = BesideSays scenario format unit
