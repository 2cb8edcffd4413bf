-- The lines that commands write, each with its end.
use Rattle.std.specs.Prelude.{ℕ, List, [], ◌∷◌, Option, codes, decimal}
use Rattle.convoy_lines.specs.Texts.{ended, line_of, number_line, text_of}
use Rattle.convoy_times.specs.Measures.{told_in_unit}
use Rattle.convoy_times.specs.declared.measure.Measure.{Measure}
use Rattle.convoy_scenario.specs.Scenario.{Scenario}
use Rattle.convoy_packets.specs.Assignment.{Schedule}
use Rattle.convoy_certificate.specs.Text.{schedule_lines}

-- the latency that a schedule attains
abbrev pub attained_line : ℕ → List ℕ
attained_line latency = ended (number_line (codes "attained") latency)

-- the yes to a certificate of that latency
abbrev pub accepted_line : ℕ → List ℕ
accepted_line latency = ended (number_line (codes "accepted") latency)

-- a certificate is not checked, since that takes more than so many steps
abbrev pub not_checked_line : ℕ → List ℕ
not_checked_line limit = ended (number_line (codes "not checked") limit)

-- a word and a number of ticks, which is told in the unit of a measure as well, where there is one
abbrev pub ticks_line : List ℕ → Option Measure → ℕ → List ℕ
ticks_line word measure ticks = ended (line_of word (decimal ticks ∷ told_in_unit measure (ticks ∷ [])))

-- the greatest latency
abbrev pub greatest_line : Option Measure → ℕ → List ℕ
greatest_line measure latency = ticks_line (codes "greatest") measure latency

-- a schedule: the line of its delays, and in real time that of the order of its ties
abbrev pub schedule_text : Scenario → Schedule → List ℕ
schedule_text scenario schedule = text_of (schedule_lines scenario schedule)

-- the least and the most that the greatest latency may be, in ticks and in the unit of a measure
abbrev pub open_line : Option Measure → ℕ → ℕ → List ℕ
open_line measure least most = ended (line_of (codes "open") (decimal least ∷ decimal most ∷ told_in_unit measure (least ∷ most ∷ [])))
