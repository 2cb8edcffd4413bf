use Rattle.std.proofs.Common.{◌≡◌, ◌++◌, map, take}
use Rattle.convoy_survey.specs.CeilingTables.{ceiling_cells}
use Rattle.convoy_survey.proofs.ceiling_table.push_rows.Given as goal

-- the table with the rows so far
abbrev pub invariant-loop-row : goal.invariant-loop-row
invariant-loop-row l = l.table ≡ record l.initial.table {
  rows = l.initial.table.rows ++ map (ceiling_cells l.times l.deadlines l.scenario) (take l.row-index l.rows);
}
