-- The lines that tell what was accepted, and the refusal of the certificate of another scenario.
use Rattle.std.specs.Prelude.{ℕ, Bool, if◌then◌else◌, List, [], ◌∷◌, ◌++◌, length, Option, codes, decimal}
use Rattle.convoy_lines.specs.Texts.{ended, line_of, number_line}
use Rattle.convoy_scenario.specs.Scenario.{Scenario, group_name_at, message_at}
use Rattle.convoy_certificate.specs.Certificate.{Certificate}
use Rattle.convoy_commands.specs.Measured.{measure_of}
use Rattle.convoy_draft.specs.declared.duration.TimeUnit.{TimeUnit}
use Rattle.convoy_times.specs.Measures.{told_in_unit}
use Rattle.convoy_times.specs.declared.measure.Measure.{Measure}
use Rattle.convoy_commands.specs.Refusals.{refused_line}
use Rattle.convoy_scenario.specs.declared.part.Part.{Part}
use Rattle.convoy_scenario.specs.Differences.{part_word}

-- the message of which the latency is asked, and the group at which it is asked
abbrev pub target_line : Scenario → List ℕ
target_line scenario =
    ended (line_of (codes "target") ((message_at scenario scenario.target_message).name ∷ group_name_at scenario scenario.target_group ∷ []))

-- D, in ticks and in the unit of a measure
abbrev pub delay_line : Option Measure → Scenario → List ℕ
delay_line measure scenario =
    ended (line_of (codes "delay") (decimal scenario.delay ∷ told_in_unit measure (scenario.delay ∷ [])))

-- how many there are of what a word names
abbrev pub count_line : List ℕ → ℕ → List ℕ
count_line word count = ended (number_line word count)

-- how many groups, messages and links a scenario has
abbrev pub counts_told : Scenario → List ℕ
counts_told scenario =
    count_line (codes "groups") (length scenario.groups)
    ++ (count_line (codes "messages") (length scenario.multicasts) ++ count_line (codes "links") (length scenario.links))

-- what is told of a scenario
abbrev pub scenario_told : Option Measure → Scenario → List ℕ
scenario_told measure scenario = target_line scenario ++ (delay_line measure scenario ++ counts_told scenario)

-- what is told of an accepted certificate, with times in the unit that is asked for: its scenario, and how many nodes its tree has
abbrev pub certificate_told : Option TimeUnit → Certificate → List ℕ
certificate_told asked certificate =
    scenario_told (measure_of asked certificate.scenario) certificate.scenario ++ count_line (codes "nodes") (length certificate.nodes)

-- the same, where it is to be told, and else nothing
abbrev pub told_if : Bool → Option TimeUnit → Certificate → List ℕ
told_if tells asked certificate = if tells then certificate_told asked certificate else []

-- the number and the text of the refusal of a certificate whose scenario differs in this part
abbrev pub row_of_difference : Part → ℕ × List ℕ
row_of_difference part = (37, codes "scenario differs in " ++ part_word part)

-- the line of that refusal
abbrev pub differs_line : Part → List ℕ
differs_line part = refused_line (row_of_difference part)
