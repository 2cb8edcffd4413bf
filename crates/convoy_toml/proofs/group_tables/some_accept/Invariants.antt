use Rattle.std.proofs.Common.{◌≡◌, drop, map}
use Rattle.std.specs.List.{list_any}
use Rattle.toml.specs.View.{table_view}
use Rattle.convoy_toml.specs.Shape.{is_accepting}
use Rattle.convoy_toml.proofs.group_tables.some_accept.Given as goal

abbrev pub invariant-loop-table : goal.invariant-loop-table
invariant-loop-table l =
    list_any is_accepting (map (λ t. table_view t.now) l.tables) ≡ list_any is_accepting (map (λ t. table_view t.now) (drop l.table-index l.tables))
