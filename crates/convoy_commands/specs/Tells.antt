-- What the commands `simulate`, `timeline`, `packets` and `scenario` write.
use Rattle.std.specs.Prelude.{ℕ, List, ◌++◌, Result}
use Rattle.std.specs.Result.{result_map_both}
use Rattle.convoy_lines.specs.Texts.{ended}
use Rattle.convoy_toml.specs.Reading.{scenario_of_text}
use Rattle.convoy_toml_writer.specs.Text.{toml_text}
use Rattle.convoy_sim.specs.Delivery.{latency_of}
use Rattle.convoy_sim.specs.Scheduled.{Scheduled}
use Rattle.convoy_timeline.specs.Timeline.{timeline_text}
use Rattle.convoy_timeline.specs.PacketLists.{packets_text, scheduled_packets_text}
use Rattle.convoy_certificate.specs.Certificate.{Certificate}
use Rattle.convoy_certificate.specs.Text.{latency_line}
use Rattle.convoy_commands.specs.declared.fault.Fault.{Fault}
use Rattle.convoy_commands.specs.declared.telling.Telling.{Telling}
use Rattle.convoy_commands.specs.declared.telling.Telling.TheVariants.{Simulate, Timeline, Packets, Toml}
use Rattle.convoy_commands.specs.Faults.{told_of}
use Rattle.convoy_commands.specs.Inputs.{reply_by_form}
use Rattle.convoy_commands.specs.ReplyLines.{schedule_text}
use Rattle.convoy_commands.specs.Replies.{Answers, Rule}
use Rattle.convoy_commands.specs.Schedules.{scheduled_in, scheduled_of_text}

-- what is told of a scenario with a schedule: the latency of its run and the schedule, the timeline of its run, its packets with their delays, or both as a text in TOML
abbrev pub text_told : Telling → Scheduled → List ℕ
text_told Simulate given = ended (latency_line (latency_of given.scenario given.schedule)) ++ schedule_text given.scenario given.schedule
text_told Timeline given = timeline_text given.scenario given.schedule
text_told Packets given = scheduled_packets_text given.scenario given.schedule
text_told Toml given = toml_text given.scenario given.schedule

-- what is told of a certificate: that of its scenario with its schedule
abbrev pub certificate_told : Telling → Certificate → List ℕ
certificate_told telling certificate = text_told telling (scheduled_in certificate)

-- that of the scenario and the schedule that a text gives, or else the first fault
unfoldable pub scheduled_told : Telling → List ℕ → Result (List ℕ) Fault
scheduled_told telling text = result_map_both (text_told telling) (λ fault. fault) (scheduled_of_text text)

-- the packets of the scenario that a text gives, or else the scenario's fault
unfoldable pub packets_told : List ℕ → Result (List ℕ) Fault
packets_told text = result_map_both packets_text told_of (scenario_of_text text)

-- What is written for a scenario's text: where packets are told, no schedule is looked at.
abbrev pub job_told : Telling → List ℕ → Result (List ℕ) Fault
job_told Simulate text = scheduled_told Simulate text
job_told Timeline text = scheduled_told Timeline text
job_told Packets text = packets_told text
job_told Toml text = scheduled_told Toml text

-- what each of them may answer: just that, of a certificate or of a scenario
abbrev pub TellSays : Telling → Rule
TellSays telling = Answers (reply_by_form (certificate_told telling) (job_told telling))

-- the rule of `simulate`
abbrev pub SimulateSays : Rule
SimulateSays = TellSays Simulate

-- the rule of `timeline`
abbrev pub TimelineSays : Rule
TimelineSays = TellSays Timeline
