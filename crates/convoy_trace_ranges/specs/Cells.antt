-- Cells of tables of links.
use Rattle.std.specs.Prelude.{ℕ, ◌==◌, if◌then◌else◌, List, length}
use Rattle.convoy_draft.specs.Names.{client_word}
use Rattle.convoy_draft.specs.declared.duration.TimeUnit.{TimeUnit}
use Rattle.convoy_tables.specs.Tables.{Cell, numeral}
use Rattle.convoy_times.specs.Measures.{told_ticks}

-- so many nanoseconds, in a unit
abbrev pub time_cell : TimeUnit → ℕ → Cell
time_cell unit time = numeral (told_ticks (record { tick = time; unit = unit }) 1)

-- who sends: a group, or clients
abbrev pub place_word : List ℕ → List ℕ
place_word from = if length from == 0 then client_word else from
