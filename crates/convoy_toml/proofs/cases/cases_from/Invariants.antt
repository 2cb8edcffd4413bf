use Rattle.std.proofs.Common.{◌≡◌, drop, map}
use Rattle.toml.specs.View.{table_view}
use Rattle.convoy_toml.specs.Cases.{cases_from}
use Rattle.convoy_toml.proofs.cases.cases_from.Given as goal

abbrev pub invariant-loop-table : goal.invariant-loop-table
invariant-loop-table l =
    cases_from 1 (map (λ t. table_view t.now) l.tables) ≡ cases_from l.cases (map (λ t. table_view t.now) (drop l.table-index l.tables))
