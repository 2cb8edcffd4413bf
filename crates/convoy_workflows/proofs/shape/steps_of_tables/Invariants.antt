use Rattle.std.proofs.Common.{◌≡◌, ◌++◌, drop, map, Ok}
use Rattle.toml.specs.View.{table_view}
use Rattle.convoy_lines.specs.Results.{◌>>=◌}
use Rattle.convoy_workflows.specs.Shape.{steps_of_tables}
use Rattle.convoy_workflows.proofs.shape.steps_of_tables.Given as goal

abbrev pub invariant-loop-table : goal.invariant-loop-table
invariant-loop-table l =
    steps_of_tables l.time (map (λ t. table_view t.now) l.tables)
    ≡ (steps_of_tables l.time (map (λ t. table_view t.now) (drop l.table-index l.tables)) >>= λ rest. Ok (l.steps.items ++ rest))
