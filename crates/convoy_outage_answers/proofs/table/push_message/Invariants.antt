use Rattle.std.proofs.Common.{◌≡◌, ◌++◌, map, take}
use Rattle.convoy_outage_answers.specs.TablesThrough.{cells_through}
use Rattle.convoy_outage_answers.proofs.table.push_message.Given as goal

-- the table with the rows so far
abbrev pub invariant-loop-row : goal.invariant-loop-row
invariant-loop-row l = l.table ≡ record l.initial.table {
  rows = l.initial.table.rows ++ map (cells_through l.with_ceilings l.times l.deadlines l.scenario) (take l.row-index l.rows);
}
