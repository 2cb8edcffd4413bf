use Rattle.std.proofs.Common.{◌≡◌, ◌++◌, map, take}
use Rattle.convoy_best_order.specs.Cells.{row_cells}
use Rattle.convoy_best_order.proofs.table.push_rows.Given as goal

-- the table with the rows so far
abbrev pub invariant-loop-row : goal.invariant-loop-row
invariant-loop-row l = l.table ≡ record l.initial.table {
  rows = l.initial.table.rows ++ map (row_cells l.layout l.scenario l.order) (take l.row-index l.rows);
}
