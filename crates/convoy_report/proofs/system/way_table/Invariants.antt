use Rattle.std.proofs.Common.{◌≡◌, map, take}
use Rattle.convoy_report.specs.Systems.{way_cells, way_columns}
use Rattle.convoy_report.proofs.system.way_table.Given as goal

-- the table of the ways so far
abbrev pub invariant-loop-way : goal.invariant-loop-way
invariant-loop-way l = l.table ≡ record {
  columns = way_columns l.times;
  rows = map (way_cells l.times l.scenario) (take l.way-index l.ways);
}
