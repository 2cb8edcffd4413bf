-- The text that explains a certificate of finishes: how late the target is at worst, and when in that run each message is finished that keeps it back.
use Rattle.std.specs.Prelude.{ℕ, ◌+◌, ◌==◌, not, ◌&&◌, Bool, true, false, List, [], ◌∷◌, ◌++◌, flat_map, length, Option, codes, decimal, if◌then◌else◌}
use Rattle.std.specs.List.{range_with_len}
use Rattle.convoy_draft.specs.declared.duration.TimeUnit.{TimeUnit}
use Rattle.convoy_scenario.specs.Scenario.{Scenario, group_name_at, message_at}
use Rattle.convoy_times.specs.declared.measure.Measure.{Measure}
use Rattle.convoy_packets.specs.Assignment.{Schedule}
use Rattle.convoy_sim.specs.Times.{issue, settle}
use Rattle.convoy_finishes.specs.Finishes.{finish_by, is_ahead}
use Rattle.convoy_timeline.specs.Explanations.{message_name_at, ticks_text}
use Rattle.convoy_commands.specs.Measured.{measure_of}
use Rattle.convoy_finish_checker.specs.declared.finish_certificate.FinishCertificate.{FinishCertificate}

-- how late the target is at worst
abbrev pub worst_text : Option Measure → Scenario → ℕ → List ℕ
worst_text measure scenario latency =
    message_name_at scenario scenario.target_message
    ++ (codes " at " ++ (group_name_at scenario scenario.target_group ++ (codes ": at worst " ++ ticks_text measure latency)))

-- when it is issued in the run, and when delivered
abbrev pub span_text : Scenario → Schedule → ℕ → List ℕ
span_text scenario schedule latency =
    codes ", issued at tick " ++ (decimal (issue scenario schedule scenario.target_message)
    ++ (codes " and delivered at tick " ++ (decimal (issue scenario schedule scenario.target_message + latency) ++ 10 ∷ [])))

-- both
abbrev pub latency_line : Option Measure → Scenario → Schedule → ℕ → List ℕ
latency_line measure scenario schedule latency = worst_text measure scenario latency ++ span_text scenario schedule latency

-- when message n is committed at the target's group in the run, and when it is finished there
abbrev pub finish_line : Scenario → List ℕ → Schedule → ℕ → List ℕ
finish_line scenario ways schedule n =
    codes "  " ++ (message_name_at scenario n
    ++ (codes " is committed there at tick " ++ (decimal (settle scenario schedule n scenario.target_group)
    ++ (codes ", and finished at tick " ++ (decimal (finish_by scenario schedule ways n) ++ 10 ∷ [])))))

-- the same of another message that is ahead of the target
abbrev pub ahead_line : Scenario → List ℕ → Schedule → ℕ → List ℕ
ahead_line scenario ways schedule n =
    if not (n == scenario.target_message) && is_ahead scenario schedule n then finish_line scenario ways schedule n else []

-- of the target, and of each other message that is ahead of it
abbrev pub finish_lines : Scenario → List ℕ → Schedule → List ℕ
finish_lines scenario ways schedule =
    finish_line scenario ways schedule scenario.target_message
    ++ flat_map (ahead_line scenario ways schedule) (range_with_len 0 (length scenario.multicasts))

-- that no run is worse
abbrev pub worst_line : List ℕ
worst_line = codes "no run is worse: checked" ++ 10 ∷ []

-- the text, where times are told so
abbrev pub explained_by : Option Measure → Scenario → List ℕ → Schedule → ℕ → List ℕ
explained_by measure scenario ways schedule latency =
    latency_line measure scenario schedule latency ++ (finish_lines scenario ways schedule ++ worst_line)

-- that of a certificate, with times in the unit that is asked for
abbrev pub finish_explained : Option TimeUnit → FinishCertificate → List ℕ
finish_explained asked certificate =
    explained_by (measure_of asked certificate.run.scenario) certificate.run.scenario certificate.ways certificate.run.schedule certificate.run.latency
