use Rattle.std.proofs.Common.{◌≡◌, ◌++◌, drop, map, Ok}
use Rattle.toml.specs.View.{table_view}
use Rattle.convoy_lines.specs.Results.{◌>>=◌}
use Rattle.convoy_toml.specs.Shape.{messages_of}
use Rattle.convoy_toml.proofs.messages.multicasts_of.Given as goal

abbrev pub invariant-loop-table : goal.invariant-loop-table
invariant-loop-table l =
    messages_of l.fn.case l.time (map (λ t. table_view t.now) l.tables)
    ≡ (messages_of l.left l.time (map (λ t. table_view t.now) (drop l.table-index l.tables)) >>= λ rest. Ok (l.multicasts.items ++ rest))
