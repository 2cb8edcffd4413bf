-- The text of the best choice of a plan: where each group is, in which order they are listed, and how late the targets are there; and that of several choices.
use Rattle.std.specs.Prelude.{ℕ, ◌-◌, Bool, List, [], ◌∷◌, ◌++◌, length, map, Option, codes}
use Rattle.std.specs.List.{enumerate_from, flat_map, range_with_len}
use Rattle.convoy_draft.specs.declared.duration.TimeUnit.{TimeUnit}
use Rattle.convoy_tables.specs.declared.cell.Kind.{Kind}
use Rattle.convoy_tables.specs.declared.cell.Kind.TheVariants.{Word, Number, Nothing}
use Rattle.convoy_tables.specs.declared.format.Format.{Format}
use Rattle.convoy_tables.specs.declared.format.Format.TheVariants.{Text, Csv, Json, Html}
use Rattle.convoy_tables.specs.Formats.{table_text}
use Rattle.convoy_tables.specs.Tables.{Cell, Table, nothing, number, numeral, word}
use Rattle.convoy_times.specs.declared.measure.Measure.{Measure}
use Rattle.convoy_times.specs.Measures.{measure_by}
use Rattle.convoy_plans.specs.Placements.{site_at}
use Rattle.convoy_plans.specs.Plans.{Plan, group_name, site_name}
use Rattle.convoy_best_order.specs.Cells.{layout_of, order_line, table_of}
use Rattle.convoy_best_plan.specs.declared.planned.Planned.{Planned}

-- a group and its site, as `orders@ireland`
abbrev pub place_word : Plan → List ℕ → ℕ → List ℕ
place_word plan placement g = group_name plan g ++ 64 ∷ site_name plan (site_at placement g)

-- all groups with their sites, with a space between them
abbrev pub site_words : Plan → List ℕ → List ℕ
site_words plan placement =
    place_word plan placement 0 ++ flat_map (λ g. 32 ∷ place_word plan placement g) (range_with_len 1 (length plan.written.groups - 1))

abbrev pub sites_line : Plan → List ℕ → List ℕ
sites_line plan placement = codes "sites " ++ (site_words plan placement ++ 10 ∷ [])

-- the two lines above a table for people: in the other formats each row tells them
abbrev pub lines_above : Format → Plan → Planned → List ℕ
lines_above Text plan planned = sites_line plan planned.placement.items ++ order_line planned.scenario planned.best.order.items
lines_above Csv plan planned = []
lines_above Json plan planned = []
lines_above Html plan planned = []

-- the choice as it is told: what no choice is below stands in place of what no order is below at its placement
abbrev pub as_told : Planned → Planned
as_told planned = record planned { best = record planned.best { least = planned.floor.least } }

-- the table of that order: a row for each target, and one for all together
abbrev pub order_told : Format → Bool → Option Measure → Planned → Table
order_told format with_reasons measure planned =
    table_of with_reasons (layout_of format with_reasons measure planned.targets.items) planned.scenario planned.best []

-- the same with one column more, which tells where the groups are
abbrev pub with_sites : Plan → List ℕ → Table → Table
with_sites plan placement table = record {
  columns = table.columns ++ word (codes "sites") ∷ [];
  rows = map (λ row. row ++ word (site_words plan placement) ∷ []) table.rows;
}

-- that column is there where no lines stand above the table
abbrev pub plan_table : Format → Bool → Option Measure → Plan → Planned → Table
plan_table Text with_reasons measure plan planned = order_told Text with_reasons measure planned
plan_table format with_reasons measure plan planned = with_sites plan planned.placement.items (order_told format with_reasons measure planned)

-- the whole text
abbrev pub plan_text : Format → Bool → Option Measure → Plan → Planned → List ℕ
plan_text format with_reasons measure plan planned =
    lines_above format plan planned ++ table_text format (plan_table format with_reasons measure plan planned)

-- SEVERAL CHOICES
-- how the times of a choice are told, where they are asked for in that unit
abbrev pub measure_of : Option TimeUnit → Plan → Planned → Option Measure
measure_of unit plan planned = measure_by unit plan.unit planned.scenario

-- its text for people
unfoldable pub block : Bool → Option TimeUnit → Plan → Planned → List ℕ
block with_reasons unit plan planned = plan_text Text with_reasons (measure_of unit plan planned) plan planned

-- the texts of the best choice and of others, with an empty line between them
abbrev pub blocks : Bool → Option TimeUnit → Plan → Planned → List Planned → List ℕ
blocks with_reasons unit plan best others =
    block with_reasons unit plan best ++ flat_map (λ planned. 10 ∷ block with_reasons unit plan planned) others

-- its table
unfoldable pub choice_table : Format → Bool → Option TimeUnit → Plan → Planned → Table
choice_table format with_reasons unit plan planned = plan_table format with_reasons (measure_of unit plan planned) plan planned

-- a cell with this in it: where it has nothing it has no text
abbrev pub cell_with : Kind → List ℕ → Cell
cell_with Word text = word text
cell_with Number text = numeral text
cell_with Nothing text = nothing

abbrev pub same_cell : Cell → Cell
same_cell cell = cell_with cell.kind cell.text

-- the names of the columns, with that of one more in front of them
abbrev pub names_with_place : List Cell → List Cell
names_with_place names = word (codes "place") ∷ map same_cell names

-- the cells of a row, with the place of its choice in front of them
abbrev pub row_with_place : ℕ → List Cell → List Cell
row_with_place place row = number place ∷ map same_cell row

-- the rows of the choice at that place
abbrev pub rows_at : Format → Bool → Option TimeUnit → Plan → ℕ × Planned → List (List Cell)
rows_at format with_reasons unit plan at = map (row_with_place at.0) (choice_table format with_reasons unit plan at.1).rows

-- the rows of the best choice, and then those of the others, by their places
abbrev pub ranking_table : Format → Bool → Option TimeUnit → Plan → Planned → List Planned → Table
ranking_table format with_reasons unit plan best others = record {
  columns = names_with_place (choice_table format with_reasons unit plan best).columns;
  rows = flat_map (rows_at format with_reasons unit plan) (enumerate_from 1 (best ∷ others));
}

-- the whole text of several choices
abbrev pub ranking_text : Format → Bool → Option TimeUnit → Plan → Planned → List Planned → List ℕ
ranking_text Text with_reasons unit plan best others = blocks with_reasons unit plan best others
ranking_text format with_reasons unit plan best others = table_text format (ranking_table format with_reasons unit plan best others)
