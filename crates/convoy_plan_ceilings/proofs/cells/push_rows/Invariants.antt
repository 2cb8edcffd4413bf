use Rattle.std.proofs.Common.{◌≡◌, ◌++◌, map, take}
use Rattle.convoy_plan_ceilings.specs.CeilingTexts.{row_cells}
use Rattle.convoy_plan_ceilings.proofs.cells.push_rows.Given as goal

-- the table with the rows so far
abbrev pub invariant-loop-row : goal.invariant-loop-row
invariant-loop-row l = l.table ≡ record l.initial.table {
  rows = l.initial.table.rows ++ map (row_cells l.judged l.times l.scenario) (take l.row-index l.rows);
}
