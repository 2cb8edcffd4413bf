use Rattle.std.proofs.Common.{◌≡◌, ◌++◌, map, take}
use Rattle.convoy_best_plan.specs.PlanTexts.{row_with_place}
use Rattle.convoy_best_plan.proofs.ranking.push_rows.Given as goal

-- the rows so far are those before and those of the choice so far
abbrev pub invariant-loop-row : goal.invariant-loop-row
invariant-loop-row l = l.table ≡ record l.initial.table { rows = l.initial.table.rows ++ map (row_with_place l.place) (take l.row-index l.told.rows) }
