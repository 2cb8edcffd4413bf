-- The links of a trace beside the ranges of a scenario.
use Rattle.std.specs.Prelude.{ℕ, ◌*◌, ◌==◌, nat_lt, Bool, false, ◌||◌, if◌then◌else◌, List, [], ◌∷◌, length, map, count_by, ◌++◌, codes, Option, Some, None, option_and_then, is_some, Result, Ok, Err, Vec}
use Rattle.std.specs.Global.{Global}
use Rattle.std.specs.Option.{option_map, option_or}
use Rattle.std.specs.List.{list_any}
use Rattle.convoy_lines.specs.Results.{◌>>=◌}
use Rattle.convoy_draft.specs.Durations.{unit_word}
use Rattle.convoy_draft.specs.declared.duration.TimeUnit.{TimeUnit}
use Rattle.convoy_draft.specs.declared.duration.TimeUnit.TheVariants.{Seconds}
use Rattle.convoy_scenario.specs.Scenario.{Scenario, range_between}
use Rattle.convoy_scenario.specs.declared.sender.Sender.{Sender}
use Rattle.convoy_scenario.specs.declared.sender.Sender.TheVariants.{Client, Group}
use Rattle.convoy_tables.specs.declared.format.Format.{Format}
use Rattle.convoy_tables.specs.Formats.{table_text}
use Rattle.convoy_tables.specs.Tables.{Cell, Table, nothing, number, numeral, word}
use Rattle.convoy_times.specs.Measures.{measure_by, told_ticks}
use Rattle.convoy_times.specs.declared.measure.Measure.{Measure}
use Rattle.convoy_traces.specs.Rows.{numbered}
use Rattle.convoy_traces.specs.declared.fault.TraceFault.{TraceFault}
use Rattle.convoy_traces.specs.declared.fault.TraceFault.TheVariants.{NoPacket}
use Rattle.convoy_trace_ranges.specs.Cells.{place_word, time_cell}
use Rattle.convoy_trace_ranges.specs.Links.{Link, links_of_text}

-- the sender of that name, where the scenario has it: a group, or a client at the place of that name; a client of no named place has none
abbrev pub sender_named : Scenario → List ℕ → Option Sender
sender_named scenario from =
    if length from == 0
    then Some (Client 0)
    else option_or (option_map Group (numbered 0 scenario.groups from)) (option_map Client (numbered 1 scenario.places from))

-- the range of a link in ticks, where the scenario has both its ends
abbrev pub range_by : Scenario → Link → Option (ℕ × ℕ)
range_by scenario link =
    option_and_then (λ sender. option_map (range_between scenario sender) (numbered 0 scenario.groups link.to)) (sender_named scenario link.from)

-- how many packets took less than so many nanoseconds
abbrev pub count_below : ℕ → List ℕ → ℕ
count_below least delays = count_by (λ delay. nat_lt delay least) delays

-- how many packets took more than so many nanoseconds
abbrev pub count_above : ℕ → List ℕ → ℕ
count_above most delays = count_by (λ delay. nat_lt most delay) delays

-- how times are told: where the length of a tick is not known, as if it were a second
abbrev pub told_by : Option Measure → Measure
told_by None = record { tick = 1000000000; unit = Seconds }
told_by (Some measure) = measure

-- the unit of numbers that have none, where the length of a tick is known
abbrev pub unit_by : Option Measure → Option TimeUnit
unit_by measure = option_map (λ (m : Measure). m.unit) measure

-- a packet was out of the range, in ticks of such a length
abbrev pub is_left : ℕ → Option (ℕ × ℕ) → List ℕ → Bool
is_left tick None delays = false
is_left tick (Some range) delays = nat_lt 0 (count_below (range.0 * tick) delays) || nat_lt 0 (count_above (range.1 * tick) delays)

-- the cells of a range: how many packets were below it and above it, and its ends
abbrev pub known_cells : Measure → ℕ → ℕ → List ℕ → List Cell
known_cells told least most delays =
    number (count_below (least * told.tick) delays)
    ∷ number (count_above (most * told.tick) delays)
    ∷ numeral (told_ticks told least)
    ∷ numeral (told_ticks told most)
    ∷ []

-- the cells of a link that the scenario has not
abbrev pub unknown_cells : List Cell
unknown_cells = nothing ∷ nothing ∷ nothing ∷ nothing ∷ []

-- the cells of a link, which the scenario may have
abbrev pub range_cells : Measure → Option (ℕ × ℕ) → List ℕ → List Cell
range_cells told None delays = unknown_cells
range_cells told (Some range) delays = known_cells told range.0 range.1 delays

-- the unit in which times are told; ticks have none
abbrev pub unit_cell : Option Measure → Cell
unit_cell None = nothing
unit_cell (Some measure) = word (unit_word measure.unit)

-- the row of a link
abbrev pub row_of : Option Measure → Scenario → Link → List Cell
row_of measure scenario link =
    word (place_word link.from) ∷ word link.to ∷ number (length link.delays)
    ∷ (range_cells (told_by measure) (range_by scenario link) link.delays
    ++ (time_cell (told_by measure).unit link.least ∷ time_cell (told_by measure).unit link.greatest ∷ unit_cell measure ∷ []))

-- the names of the columns
abbrev pub columns : List Cell
columns =
    map word
    (codes "from" ∷ codes "to" ∷ codes "packets" ∷ codes "below" ∷ codes "above" ∷ codes "least" ∷ codes "most" ∷ codes "least_seen" ∷ codes "most_seen" ∷ codes "unit" ∷ [])

-- the table of links
abbrev pub table_of : Option Measure → Scenario → List Link → Table
table_of measure scenario links = record { columns = columns; rows = map (row_of measure scenario) links }

-- the scenario has both ends of the link
abbrev pub is_known : Scenario → Link → Bool
is_known scenario link = is_some (range_by scenario link)

-- a packet of the link was out of its range
abbrev pub is_link_left : Option Measure → Scenario → Link → Bool
is_link_left measure scenario link = is_left (told_by measure).tick (range_by scenario link) link.delays

-- some link is one of the scenario
abbrev pub some_known : Scenario → List Link → Result (List Link) TraceFault
some_known scenario links = if list_any (is_known scenario) links then Ok links else Err NoPacket

-- the links of a trace of which the scenario has one at least
abbrev pub links_beside : Option Measure → Scenario → List ℕ → Result (List Link) TraceFault
links_beside measure scenario text = links_of_text (unit_by measure) text >>= some_known scenario

-- THE HEADLINE. What is told of a trace beside a scenario: whether some packet was out of its range, and the table of its links.
unfoldable pub beside_told : Format → Option TimeUnit → Scenario → List ℕ → Result (Bool × List ℕ) TraceFault
beside_told format unit scenario text =
    links_beside (measure_by unit None scenario) scenario text >>= (λ links.
    Ok (list_any (is_link_left (measure_by unit None scenario) scenario) links, table_text format (table_of (measure_by unit None scenario) scenario links)))

-- what was answered, with its text as a list
abbrev pub as_told : Bool × Vec ℕ Global → Bool × List ℕ
as_told (left, text) = (left, text.items)
