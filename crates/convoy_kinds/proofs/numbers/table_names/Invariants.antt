use Rattle.std.proofs.Common.{◌≡◌, map, take}
use Rattle.convoy_kinds.proofs.numbers.table_names.Given as goal

abbrev pub invariant-loop-table : goal.invariant-loop-table
invariant-loop-table l = l.names.items ≡ map (λ table. table.name) (take l.table-index l.tables)
