-- What a result tells of its devices, the law of texts that one command writes and another reads, and that of verdicts.
use Rattle.std.specs.Prelude.{◌≡◌, ℕ, ◌<◌, List, Result, Ok, Err}
use Rattle.convoy_scenario.specs.Scenario.{Scenario}
use Rattle.convoy_scenario.specs.WellFormed.{IsScenario}
use Rattle.convoy_packets.specs.Assignment.{IsAssignment, Schedule}
use Rattle.convoy_sim.specs.Delivery.{latency_of}
use Rattle.convoy_sim.specs.Greatest.{IsReached, IsUpper}
use Rattle.convoy_toml_writer.specs.Text.{toml_text}
use Rattle.convoy_streams.specs.declared.reading.ReadFault.TheVariants.{Read}
use Rattle.convoy_streams.specs.Devices.{Answer, failures}
use Rattle.convoy_commands.specs.declared.done.Done.{Done}
use Rattle.convoy_commands.specs.declared.fault.Fault.{Fault}
use Rattle.convoy_commands.specs.declared.fault.Fault.TheVariants.{Reading, Write}
use Rattle.convoy_commands.specs.declared.verdict.Verdict.{Verdict}
use Rattle.convoy_commands.specs.declared.verdict.Verdict.TheVariants.{Within, Beyond, Undecided}
use Rattle.convoy_commands.specs.Schedules.{scheduled_of_text}
use Rattle.convoy_commands.specs.Verdicts.{verdict_of}

-- how often a result says that the source failed
abbrev pub told_reads : Result Done Fault → ℕ
told_reads (Err (Reading Read)) = 1
told_reads (Err other) = 0
told_reads (Ok done) = 0

-- how often a result says that the sink failed
abbrev pub told_writes : Result Done Fault → ℕ
told_writes (Err Write) = 1
told_writes (Err other) = 0
told_writes (Ok done) = 0

-- each failure of a device is told by the result, and no failure is told that was none
abbrev pub TellsFailures : List Answer → List Answer → Result Done Fault → Type 0
TellsFailures reads writes result = (failures reads ≡ told_reads result) × (failures writes ≡ told_writes result)

-- where the text is read that is written of a scenario with a schedule, a run is told of that scenario and that schedule
abbrev pub WrittenTextsAreTold : Type 0
WrittenTextsAreTold =
    (scenario : Scenario) (schedule : Schedule) → IsScenario scenario → IsAssignment scenario schedule →
    scheduled_of_text (toml_text scenario schedule) ≡ Ok (record { scenario = scenario; schedule = schedule })

-- what a verdict says of a scenario and a deadline: no schedule has a latency above the deadline, or some schedule has one, or nothing
abbrev pub VerdictSays : Scenario → ℕ → Verdict → Type 0
VerdictSays scenario deadline Within = IsUpper scenario deadline
VerdictSays scenario deadline Beyond = (schedule : Schedule) × IsAssignment scenario schedule × (deadline < latency_of scenario schedule)
VerdictSays scenario deadline Undecided = Unit {0}

-- where some schedule of a scenario has the least latency, and none has a greater one than the most, what the verdict says holds
abbrev pub VerdictsHold : Type 0
VerdictsHold =
    (scenario : Scenario) (deadline least most : ℕ) → IsReached scenario least → IsUpper scenario most →
    VerdictSays scenario deadline (verdict_of deadline least most)
