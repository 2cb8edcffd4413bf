-- The text of the best order: a line with its groups, where it is for people, and a table of targets and reasons.
use Rattle.std.specs.Prelude.{ℕ, nat_lt, Bool, true, false, List, [], ◌∷◌, ◌++◌, map, Option, Some, None, codes, if◌then◌else◌}
use Rattle.std.specs.List.{flat_map}
use Rattle.convoy_scenario.specs.Scenario.{Scenario, group_name_at, message_at}
use Rattle.convoy_tables.specs.declared.format.Format.{Format}
use Rattle.convoy_tables.specs.declared.format.Format.TheVariants.{Text, Csv, Json, Html}
use Rattle.convoy_tables.specs.Formats.{table_text}
use Rattle.convoy_tables.specs.Tables.{Cell, Table, nothing, number, word}
use Rattle.convoy_times.specs.declared.measure.Measure.{Measure}
use Rattle.convoy_survey.specs.Judgements.{verdict_cells, verdict_columns}
use Rattle.convoy_survey.specs.Times.{count_cell, time_cell, times_of, unit_cell, where_told}
use Rattle.convoy_best_order.specs.declared.best.Best.{Best}
use Rattle.convoy_best_order.specs.declared.best.Reason.{Reason}
use Rattle.convoy_best_order.specs.declared.best.Row.{Row}
use Rattle.convoy_best_order.specs.declared.layout.Layout.{Layout}
use Rattle.convoy_best_order.specs.declared.spread.Spread.{Spread}
use Rattle.convoy_best_order.specs.declared.target.Target.{Target}
use Rattle.convoy_best_order.specs.Targets.{are_judged}

-- THE ORDER
-- the names of its groups, with a space between them
abbrev pub order_words : Scenario → List ℕ → List ℕ
order_words scenario [] = []
order_words scenario (g ∷ gs) = group_name_at scenario g ++ flat_map (λ h. 32 ∷ group_name_at scenario h) gs

abbrev pub order_line : Scenario → List ℕ → List ℕ
order_line scenario order = codes "order " ++ (order_words scenario order ++ 10 ∷ [])

-- the line stands above a table for people; in the other formats, and where reasons are told, each row has the order of which it speaks
abbrev pub line_above : Format → Scenario → List ℕ → List ℕ
line_above Text scenario order = order_line scenario order
line_above Csv scenario order = []
line_above Json scenario order = []
line_above Html scenario order = []

abbrev pub tells_order : Format → Bool → Bool
tells_order Text with_reasons = with_reasons
tells_order Csv with_reasons = true
tells_order Json with_reasons = true
tells_order Html with_reasons = true

-- what columns there are
abbrev pub layout_of : Format → Bool → Option Measure → List Target → Layout
layout_of format with_reasons measure targets = record {
  times = times_of format measure;
  is_judged = are_judged targets;
  tells_order = tells_order format with_reasons;
}

-- CELLS
-- a least and a most that may not be known, in ticks
abbrev pub spread_cells : Option Spread → List Cell
spread_cells None = nothing ∷ nothing ∷ []
spread_cells (Some spread) = number spread.least ∷ number spread.most ∷ []

-- the same as times
abbrev pub spread_times : Option Measure → Option Spread → List Cell
spread_times measure None = nothing ∷ nothing ∷ []
spread_times measure (Some spread) = time_cell measure (Some spread.least) ∷ time_cell measure (Some spread.most) ∷ []

-- both before and after as times, and their unit
abbrev pub time_cells : Option Measure → Option Spread → Option Spread → List Cell
time_cells measure before after = spread_times measure before ++ (spread_times measure after ++ unit_cell measure ∷ [])

-- how late it is before and after, in ticks and, where they are told, in times
abbrev pub number_cells : Layout → Option Spread → Option Spread → List Cell
number_cells layout before after =
    spread_cells before ++ (spread_cells after ++ where_told layout.times (time_cells layout.times.measure before after))

-- the message and the group of a target, and its deadline if it has one
abbrev pub target_cells : Scenario → Target → List Cell
target_cells scenario target =
    word (message_at scenario target.message).name ∷ word (group_name_at scenario target.group) ∷ count_cell target.deadline ∷ []

-- all targets together
abbrev pub all_cells : List Cell
all_cells = word (codes "*") ∷ word (codes "*") ∷ nothing ∷ []

-- an order, in a table that tells orders
abbrev pub order_cells : Layout → Scenario → List ℕ → List Cell
order_cells layout scenario order = if layout.tells_order then word (order_words scenario order) ∷ [] else []

-- how a latency keeps the deadline of its target
abbrev pub judged_cells : Layout → Target → Spread → List Cell
judged_cells layout target spread = verdict_cells layout.is_judged layout.times target.deadline (Some spread.least) (Some spread.most)

-- LINES
-- how late a target is with the groups in that order, and how late it was where that is told
abbrev pub line_cells : Layout → Scenario → List ℕ → Target → Option Spread → Spread → List Cell
line_cells layout scenario order target before after =
    target_cells scenario target ++ (number_cells layout before (Some after)
    ++ (judged_cells layout target after ++ order_cells layout scenario order))

abbrev pub row_cells : Layout → Scenario → List ℕ → Row → List Cell
row_cells layout scenario order row = line_cells layout scenario order row.target (Some row.before) row.after

abbrev pub reason_cells : Layout → Scenario → Reason → List Cell
reason_cells layout scenario reason = line_cells layout scenario reason.order.items reason.target None reason.spread

-- between what lies the greatest latency of all targets in the best order, where none has a deadline
abbrev pub bounds_of : Bool → Best → Option Spread
bounds_of true best = None
bounds_of false best = Some (record { least = best.least.latency; most = best.most.latency })

-- how all deadlines are kept: that some target misses its own by so much in each order, or that each target keeps its own by so much in the best one
abbrev pub kept_cells : Layout → Best → List Cell
kept_cells layout best =
    if nat_lt best.least.limit best.least.latency
    then verdict_cells layout.is_judged layout.times (Some best.least.limit) (Some best.least.latency) (Some best.least.latency)
    else verdict_cells layout.is_judged layout.times (Some best.most.limit) (Some 0) (Some best.most.latency)

-- all targets that count together, in the best order
abbrev pub whole_cells : Layout → Scenario → Best → List Cell
whole_cells layout scenario best =
    all_cells ++ (number_cells layout None (bounds_of layout.is_judged best)
    ++ (kept_cells layout best ++ order_cells layout scenario best.order.items))

-- the reasons, where they are asked for
abbrev pub reason_lines : Bool → Layout → Scenario → List Reason → List (List Cell)
reason_lines false layout scenario reasons = []
reason_lines true layout scenario reasons = map (reason_cells layout scenario) reasons

-- COLUMNS
abbrev pub tick_columns : List Cell
tick_columns =
    word (codes "message") ∷ word (codes "group") ∷ word (codes "deadline") ∷ word (codes "before_least")
    ∷ word (codes "before_most") ∷ word (codes "least") ∷ word (codes "most") ∷ []

abbrev pub time_columns : List Cell
time_columns =
    word (codes "before_least_time") ∷ word (codes "before_most_time") ∷ word (codes "least_time")
    ∷ word (codes "most_time") ∷ word (codes "unit") ∷ []

abbrev pub order_columns : Layout → List Cell
order_columns layout = if layout.tells_order then word (codes "order") ∷ [] else []

-- the names of the columns
abbrev pub columns_of : Layout → List Cell
columns_of layout =
    tick_columns ++ (where_told layout.times time_columns ++ (verdict_columns layout.is_judged layout.times ++ order_columns layout))

-- THE TABLE
-- a line for each target that counts, one for each other one, one for all that count together, and one for each reason where they are asked for
abbrev pub lines_of : Bool → Layout → Scenario → Best → List Row → List (List Cell)
lines_of with_reasons layout scenario best others =
    map (row_cells layout scenario best.order.items) best.rows.items
    ++ (map (row_cells layout scenario best.order.items) others
    ++ (whole_cells layout scenario best ∷ reason_lines with_reasons layout scenario best.reasons.items))

abbrev pub table_of : Bool → Layout → Scenario → Best → List Row → Table
table_of with_reasons layout scenario best others = record {
  columns = columns_of layout;
  rows = lines_of with_reasons layout scenario best others;
}

-- the whole text
abbrev pub order_text : Format → Bool → Option Measure → Scenario → List Target → Best → List Row → List ℕ
order_text format with_reasons measure scenario targets best others =
    line_above format scenario best.order.items
    ++ table_text format (table_of with_reasons (layout_of format with_reasons measure targets) scenario best others)
