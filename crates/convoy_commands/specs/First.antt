-- What the command `first` writes.
use Rattle.std.specs.Prelude.{ℕ, List, ◌++◌, Result}
use Rattle.std.specs.Result.{result_map_both}
use Rattle.convoy_toml.specs.declared.asked.Asked.{Asked}
use Rattle.convoy_toml.specs.Reading.{scenario_of_text_by}
use Rattle.convoy_scenario.specs.Scenario.{Scenario}
use Rattle.convoy_packets.specs.Assignment.{Schedule, ranges_of}
use Rattle.convoy_packets.specs.Table.{least_of}
use Rattle.convoy_sim.specs.Delivery.{latency_of}
use Rattle.convoy_commands.specs.declared.fault.Fault.{Fault}
use Rattle.convoy_commands.specs.Faults.{told_of}
use Rattle.convoy_commands.specs.ReplyLines.{attained_line, schedule_text}
use Rattle.convoy_commands.specs.Replies.{Answers, Rule, fine}

-- the schedule in which each packet takes its least delay
abbrev pub least_schedule : Scenario → Schedule
least_schedule scenario = least_of (ranges_of scenario)

-- the latency that a schedule attains, and the schedule
abbrev pub attained_text : Scenario → Schedule → List ℕ
attained_text scenario schedule = attained_line (latency_of scenario schedule) ++ schedule_text scenario schedule

-- What is written for a text: that of the least delays of its scenario, or else the scenario's fault.
unfoldable pub first_text : Asked → List ℕ → Result (List ℕ) Fault
first_text asked text =
    result_map_both (λ scenario. attained_text scenario (least_schedule scenario)) told_of (scenario_of_text_by asked text)

-- what `first` may answer: just that
abbrev pub FirstSays : Asked → Rule
FirstSays asked = Answers (λ text. fine (first_text asked text))
