use Rattle.std.proofs.Common.{◌≡◌, ◌++◌, map, take}
use Rattle.convoy_best_order.specs.Cells.{reason_cells}
use Rattle.convoy_best_order.proofs.table.push_reasons.Given as goal

-- the table with the reasons so far
abbrev pub invariant-loop-reason : goal.invariant-loop-reason
invariant-loop-reason l = l.table ≡ record l.initial.table {
  rows = l.initial.table.rows ++ map (reason_cells l.layout l.scenario) (take l.reason-index l.reasons);
}
