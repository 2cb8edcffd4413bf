use Rattle.std.proofs.Common.{◌≡◌, ◌++◌, filter, flat_map, length, take}
use Rattle.convoy_what_if.specs.Cells.{leaves_latency, row_lines}
use Rattle.convoy_what_if.proofs.table.push_rows.Given as goal

-- the table with the lines for the rows so far
abbrev pub invariant-loop-row : goal.invariant-loop-row
invariant-loop-row l = l.table ≡ record l.initial.table {
  rows = l.initial.table.rows ++ flat_map (row_lines l.times l.deadline l.scenario l.unchanged (length (filter (leaves_latency l.unchanged) l.rows))) (take l.row-index l.rows);
}
