use Rattle.std.proofs.Common.{◌≡◌, ◌++◌, drop, map, Ok}
use Rattle.toml.specs.View.{table_view}
use Rattle.convoy_lines.specs.Results.{◌>>=◌}
use Rattle.convoy_toml.specs.Shape.{acceptances_in}
use Rattle.convoy_toml.proofs.group_tables.acceptances_in.Given as goal

abbrev pub invariant-loop-table : goal.invariant-loop-table
invariant-loop-table l =
    acceptances_in l.time (map (λ t. table_view t.now) l.tables)
    ≡ (acceptances_in l.time (map (λ t. table_view t.now) (drop l.table-index l.tables)) >>= λ rest. Ok (l.acceptances.items ++ rest))
