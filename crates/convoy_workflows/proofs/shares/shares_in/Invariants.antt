use Rattle.std.proofs.Common.{◌≡◌, ◌++◌, drop, map}
use Rattle.toml.specs.View.{table_view}
use Rattle.convoy_toml.specs.Outside.{shares_in}
use Rattle.convoy_workflows.proofs.shares.shares_in.Given as goal

abbrev pub invariant-loop-table : goal.invariant-loop-table
invariant-loop-table l =
    l.shares.items ++ shares_in (map (λ t. table_view t.now) (drop l.table-index l.tables))
    ≡ shares_in (map (λ t. table_view t.now) l.tables)
