use Rattle.std.proofs.Common.{◌≡◌, ◌++◌, map, take}
use Rattle.convoy_best_plan.specs.PlanTexts.{same_cell}
use Rattle.convoy_best_plan.proofs.ranking.push_cells.Given as goal

-- the cells so far are those before and the same as those so far
abbrev pub invariant-loop-cell : goal.invariant-loop-cell
invariant-loop-cell l = l.row ≡ l.initial.row ++ map same_cell (take l.cell-index l.cells)
