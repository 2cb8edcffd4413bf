use Rattle.std.proofs.Common.{◌≡◌, ◌++◌, map, take}
use Rattle.convoy_kinds_told.specs.KindTables.{row_cells}
use Rattle.convoy_kinds_told.proofs.table.push_rows.Given as goal

-- the table with the rows so far
abbrev pub invariant-loop-row : goal.invariant-loop-row
invariant-loop-row l = l.table ≡ record l.initial.table {
  rows = l.initial.table.rows ++ map (row_cells l.told l.measure l.kinds) (take l.row-index l.rows);
}
