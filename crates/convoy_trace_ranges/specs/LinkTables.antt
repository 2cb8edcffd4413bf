-- The table of the links of a trace.
use Rattle.std.specs.Prelude.{ℕ, List, [], ◌∷◌, length, map, codes, Some, Result, Ok}
use Rattle.convoy_lines.specs.Results.{◌>>=◌}
use Rattle.convoy_draft.specs.Durations.{unit_word}
use Rattle.convoy_draft.specs.declared.duration.TimeUnit.{TimeUnit}
use Rattle.convoy_tables.specs.declared.format.Format.{Format}
use Rattle.convoy_tables.specs.Formats.{table_text}
use Rattle.convoy_tables.specs.Tables.{Cell, Table, number, word}
use Rattle.convoy_traces.specs.declared.fault.TraceFault.{TraceFault}
use Rattle.convoy_trace_ranges.specs.declared.shares.Shares.{Shares}
use Rattle.convoy_trace_ranges.specs.Cells.{place_word, time_cell}
use Rattle.convoy_trace_ranges.specs.Links.{Link, links_of_text}
use Rattle.convoy_trace_ranges.specs.Shares.{shares_of}

-- the row of a link within whose times shares of its packets came
abbrev pub row_with : TimeUnit → Link → Shares → List Cell
row_with unit link shares =
    word (place_word link.from)
    ∷ word link.to
    ∷ number (length link.delays)
    ∷ time_cell unit link.least
    ∷ time_cell unit shares.half
    ∷ time_cell unit shares.most
    ∷ time_cell unit shares.nearly_all
    ∷ time_cell unit shares.all_but_few
    ∷ time_cell unit link.greatest
    ∷ word (unit_word unit)
    ∷ []

-- the row of a link
unfoldable pub row_of : TimeUnit → Link → List Cell
row_of unit link = row_with unit link (shares_of link.delays)

-- the names of the columns
abbrev pub columns : List Cell
columns =
    map word
    (codes "from" ∷ codes "to" ∷ codes "packets" ∷ codes "least" ∷ codes "p50" ∷ codes "p90" ∷ codes "p99" ∷ codes "p99.9" ∷ codes "greatest" ∷ codes "unit" ∷ [])

-- the table of links, with times in this unit
abbrev pub table_of : TimeUnit → List Link → Table
table_of unit links = record { columns = columns; rows = map (row_of unit) links }

-- THE HEADLINE. What is written for a trace, whose numbers without a unit are of this one: the table of its links.
unfoldable pub trace_table_text : Format → TimeUnit → List ℕ → Result (List ℕ) TraceFault
trace_table_text format unit text = links_of_text (Some unit) text >>= (λ links. Ok (table_text format (table_of unit links)))
