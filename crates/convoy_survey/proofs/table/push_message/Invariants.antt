use Rattle.std.proofs.Common.{◌≡◌, ◌++◌, map, take}
use Rattle.convoy_survey.specs.Cells.{cells_of}
use Rattle.convoy_survey.proofs.table.push_message.Given as goal

-- the table with the rows so far
abbrev pub invariant-loop-row : goal.invariant-loop-row
invariant-loop-row l = l.table ≡ record l.initial.table {
  rows = l.initial.table.rows ++ map (cells_of l.with_ceilings l.times l.deadlines l.scenario) (take l.row-index l.rows);
}
