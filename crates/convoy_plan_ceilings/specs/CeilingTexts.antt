-- The text of the placement with the least ceilings: where each group is, and how great the ceilings are there.
use Rattle.std.specs.Prelude.{ℕ, Bool, true, false, List, [], ◌∷◌, ◌++◌, map, Option, Some, None, codes}
use Rattle.convoy_scenario.specs.Scenario.{Scenario, group_name_at, message_at}
use Rattle.convoy_tables.specs.declared.format.Format.{Format}
use Rattle.convoy_tables.specs.declared.format.Format.TheVariants.{Text, Csv, Json, Html}
use Rattle.convoy_tables.specs.Formats.{table_text}
use Rattle.convoy_tables.specs.Tables.{Cell, Table, nothing, word}
use Rattle.convoy_times.specs.declared.measure.Measure.{Measure}
use Rattle.convoy_plans.specs.Plans.{Plan}
use Rattle.convoy_survey.specs.declared.times.Times.{Times}
use Rattle.convoy_survey.specs.Judgements.{verdict_cells, verdict_columns}
use Rattle.convoy_survey.specs.Times.{count_cell, time_cell, times_of, unit_cell, where_told}
use Rattle.convoy_best_order.specs.declared.excess.Excess.{Excess}
use Rattle.convoy_best_order.specs.declared.target.Target.{Target}
use Rattle.convoy_best_plan.specs.PlanTexts.{sites_line, with_sites}
use Rattle.convoy_plan_ceilings.specs.declared.ceiling_choice.CeilingChoice.{CeilingChoice}
use Rattle.convoy_plan_ceilings.specs.declared.target_ceiling.TargetCeiling.{TargetCeiling}
use Rattle.convoy_plan_ceilings.specs.LeastCeilings.{are_limited}

-- CELLS
-- the message and the group of a target, and its deadline if it has one
abbrev pub target_cells : Scenario → Target → List Cell
target_cells scenario target =
    word (message_at scenario target.message).name ∷ word (group_name_at scenario target.group) ∷ count_cell target.deadline ∷ []

-- all targets together
abbrev pub all_cells : List Cell
all_cells = word (codes "*") ∷ word (codes "*") ∷ nothing ∷ []

-- a ceiling that may not be told, in ticks and, where times are told, as a time
abbrev pub ceiling_cells : Times → Option ℕ → List Cell
ceiling_cells times ceiling = count_cell ceiling ∷ where_told times (time_cell times.measure ceiling ∷ unit_cell times.measure ∷ [])

-- how a ceiling keeps a deadline: nothing but that no latency is greater is known by it
abbrev pub judged_cells : Bool → Times → Option ℕ → ℕ → List Cell
judged_cells judged times deadline ceiling = verdict_cells judged times deadline None (Some ceiling)

-- the cells of the row of a target
abbrev pub row_cells : Bool → Times → Scenario → TargetCeiling → List Cell
row_cells judged times scenario row =
    target_cells scenario row.target ++ (ceiling_cells times (Some row.ceiling) ++ judged_cells judged times row.target.deadline row.ceiling)

-- the greatest ceiling, where none of the targets has a deadline
abbrev pub ceiling_of_all : Bool → Excess → Option ℕ
ceiling_of_all true worst = None
ceiling_of_all false worst = Some worst.latency

-- the cells of the row of all targets together: with the verdict on the one that exceeds its deadline by the most, or is the least below it
abbrev pub whole_cells : Bool → Times → Excess → List Cell
whole_cells judged times worst =
    all_cells ++ (ceiling_cells times (ceiling_of_all judged worst) ++ judged_cells judged times (Some worst.limit) worst.latency)

-- THE TABLE
-- the names of the columns
abbrev pub columns_of : Bool → Times → List Cell
columns_of judged times =
    word (codes "message") ∷ word (codes "group") ∷ word (codes "deadline") ∷ word (codes "ceiling") ∷ []
    ++ (where_told times (word (codes "ceiling_time") ∷ word (codes "unit") ∷ []) ++ verdict_columns judged times)

-- a row for each target that counts, and one for all of them together
abbrev pub table_of : Bool → Times → CeilingChoice → Table
table_of judged times chosen = record {
  columns = columns_of judged times;
  rows = map (row_cells judged times chosen.scenario) chosen.rows.items ++ whole_cells judged times chosen.reach.least ∷ [];
}

-- the same with one column more, which tells where the groups are, in a format in which no line above the table does
abbrev pub ceiling_table : Format → Option Measure → Plan → CeilingChoice → Table
ceiling_table Text measure plan chosen = table_of (are_limited chosen.rows.items) (times_of Text measure) chosen
ceiling_table format measure plan chosen = with_sites plan chosen.placement.items (table_of (are_limited chosen.rows.items) (times_of format measure) chosen)

-- the line above a table for people
abbrev pub line_above : Format → Plan → CeilingChoice → List ℕ
line_above Text plan chosen = sites_line plan chosen.placement.items
line_above Csv plan chosen = []
line_above Json plan chosen = []
line_above Html plan chosen = []

-- the whole text
abbrev pub ceiling_text : Format → Option Measure → Plan → CeilingChoice → List ℕ
ceiling_text format measure plan chosen = line_above format plan chosen ++ table_text format (ceiling_table format measure plan chosen)
