use Rattle.std.proofs.Common.{◌≡◌, ◌+◌, ◌++◌, drop, flat_map}
use Rattle.std.specs.List.{enumerate_from}
use Rattle.convoy_best_plan.specs.PlanTexts.{choice_table, names_with_place, ranking_table, rows_at}
use Rattle.convoy_best_plan.proofs.ranking.ranking_table.Given as goal

-- the rows so far and those of the choices that are left are all of them
abbrev pub invariant-loop-planned : goal.invariant-loop-planned
invariant-loop-planned l = record {
  place : l.place ≡ l.planned-index + 1;
  columns : l.table.columns ≡ names_with_place (choice_table l.format l.with_reasons l.unit l.plan l.best).columns;
  rows : l.table.rows ++ flat_map (rows_at l.format l.with_reasons l.unit l.plan) (enumerate_from (l.planned-index + 2) (drop l.planned-index l.others))
      ≡ (ranking_table l.format l.with_reasons l.unit l.plan l.best l.others).rows;
}
