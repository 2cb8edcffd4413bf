use Rattle.std.proofs.Common.{◌≡◌, ◌++◌, drop, map, Ok}
use Rattle.toml.specs.View.{table_view}
use Rattle.convoy_lines.specs.Results.{◌>>=◌}
use Rattle.convoy_kinds.specs.Shape.{kinds_of_tables}
use Rattle.convoy_kinds.proofs.shape.kinds_of_tables.Given as goal

abbrev pub invariant-loop-table : goal.invariant-loop-table
invariant-loop-table l =
    kinds_of_tables (map (λ t. table_view t.now) l.tables)
    ≡ (kinds_of_tables (map (λ t. table_view t.now) (drop l.table-index l.tables)) >>= λ rest. Ok (l.kinds.items ++ rest))
