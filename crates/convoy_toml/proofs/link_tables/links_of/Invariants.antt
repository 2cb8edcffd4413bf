use Rattle.std.proofs.Common.{◌≡◌, ◌++◌, drop, map, Ok}
use Rattle.toml.specs.View.{table_view}
use Rattle.convoy_lines.specs.Results.{◌>>=◌}
use Rattle.convoy_toml.specs.Shape.{links_of}
use Rattle.convoy_toml.proofs.link_tables.links_of.Given as goal

abbrev pub invariant-loop-table : goal.invariant-loop-table
invariant-loop-table l =
    links_of l.time (map (λ t. table_view t.now) l.tables)
    ≡ (links_of l.time (map (λ t. table_view t.now) (drop l.table-index l.tables)) >>= λ rest. Ok (l.links.items ++ rest))
