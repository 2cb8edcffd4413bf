use Rattle.std.proofs.Common.{◌≡◌, ◌++◌, drop, map, Ok}
use Rattle.toml.specs.View.{table_view}
use Rattle.convoy_lines.specs.Results.{◌>>=◌}
use Rattle.convoy_plans.specs.Shape.{homes_of}
use Rattle.convoy_plans.proofs.shape.homes_of.Given as goal

abbrev pub invariant-loop-table : goal.invariant-loop-table
invariant-loop-table l =
    homes_of (map (λ t. table_view t.now) l.tables)
    ≡ (homes_of (map (λ t. table_view t.now) (drop l.table-index l.tables)) >>= λ rest. Ok (l.homes.items ++ rest))
