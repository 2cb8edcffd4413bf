use Rattle.std.proofs.Common.{◌≡◌, ◌++◌, drop}
use Rattle.std.specs.List.{flat_map}
use Rattle.convoy_case_survey.specs.CaseSurveys.{case_rows}
use Rattle.convoy_case_survey.proofs.telling.cases_table.Given as goal

-- the columns are those of the first case, and the rows so far and those of the cases that are left are all rows
abbrev pub invariant-loop-case : goal.invariant-loop-case
invariant-loop-case l =
    (l.table.columns ≡ l.initial.table.columns)
    × (l.table.rows ++ flat_map (case_rows l.with_ceilings) (drop l.case-index l.others)
    ≡ l.initial.table.rows ++ flat_map (case_rows l.with_ceilings) l.others)
